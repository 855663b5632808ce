-- A legal machine (01 "Numbers the encoder sees").
use Rattle.std.specs.Prelude.{◌≡◌, Bool, true, ◌&&◌, List, ℕ, ◌<◌, T, eqb, length}
use Rattle.numbers.specs.Numbers.{file_length}
use Rattle.word.specs.Choose.{pick}
use Rattle.word.specs.Fields.{bit_of, lower}
use Rattle.timers.specs.Requests.{requests_fit}
use Rattle.timers.specs.Clock.{LegalMoving}
use Rattle.machine.specs.Names.{TMR, IRQ, RP}
use Rattle.machine.specs.State.{held_in}
use Rattle.machine.specs.Registers.{is_hole}
use Rattle.machine.specs.Clock.{moving_of}
use Rattle.machine.specs.Start.{is_kind, is_cost}
use Rattle.machine.specs.declared.Machine.{Machine}

-- what a place may hold: "places 80 to EF and F0 (hexadecimal) zero; bits 0 and 2 of TMR, 6 and 7 of IRQ, and 0 to 3 of RP zero"; and where
-- no EI has been executed, IRQ zero (02, C-13)
unfoldable pub may_hold : Bool → ℕ → ℕ → Bool
may_hold released a v =
    pick (is_hole a) (eqb v 0)
    (pick (eqb a TMR) (eqb (bit_of 0 v) 0 && eqb (bit_of 2 v) 0)
    (pick (eqb a IRQ) (requests_fit (record { irq = v; released = released }))
    (pick (eqb a RP) (eqb (lower v) 0) true)))

-- a file of 256 bytes, as every file in code is by its type, in which each place holds what it may
pub record LegalFile (released : Bool) (file : List ℕ) : Type 0 where
  pub long : length file ≡ file_length
  pub bytes : (a : ℕ) → held_in file a < 256
  pub places : (a : ℕ) → T (may_hold released a (held_in file a))

-- `moving` says "divider 0 to 3; prescalers 1 to 64", that a counter is 1 to 256, and what the serial port's bytes may be. T_OUT is 0 or 1
-- by its type. `pc_word` and `last3_byte` say what in code the types say.
pub record Legal (m : Machine) : Type 0 where
  pub file : LegalFile m.released m.regs
  pub pc_word : m.pc < 65536
  pub moving : LegalMoving (moving_of m)
  pub last3_byte : m.last3 < 256
  pub kind : T (is_kind m.kind)
  pub cost : T (is_cost m.cost)
