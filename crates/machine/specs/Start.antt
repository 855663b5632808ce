-- Reset, and the new machine (01 "One step", "Numbers the encoder sees"; 02, C-13; 004, table 8-1 and 10.8).
use Rattle.std.specs.Prelude.{Bool, true, false, ◌&&◌, ◌||◌, List, [], ◌∷◌, ℕ, eqb, leb, replicate, Result, Ok, Err}
use Rattle.numbers.specs.Numbers.{file_length}
use Rattle.numbers.specs.declared.Refusal.{Refusal}
use Rattle.numbers.specs.declared.Refusal.TheVariants as refusal
use Rattle.word.specs.Choose.{pick}
use Rattle.serial.specs.Transmitter.{idle}
use Rattle.serial.specs.Receiver.{waiting}
use Rattle.serial.specs.declared.Port.{Port}
use Rattle.timers.specs.declared.Timer.{Timer}
use Rattle.machine.specs.Names.{SIO, TMR, T1, PRE1, T0, PRE0, P2M, P3M, P01M, IPR, IRQ, IMR, FLAGS, RP, SPH, SPL}
use Rattle.machine.specs.State.{placed_in}
use Rattle.machine.specs.declared.Machine.{Machine}

-- a place and what it then holds
pub record Place : Type 0 where
  pub address : ℕ
  pub byte : ℕ

abbrev pub holding : ℕ → ℕ → Place
holding a v = record { address = a; byte = v }

abbrev pub placed_all : List ℕ → List Place → List ℕ
placed_all file [] = file
placed_all file (p ∷ ps) = placed_all (placed_in file p.address p.byte) ps

-- the latches of ports 0 to 3, and F0 to FF: "P01M 4D, P2M FF; P3M, TMR, IRQ, IMR, PRE0, PRE1 [..] 0; other control bytes and latches 0"
unfoldable pub reset_places : List Place
reset_places =
    holding 0x00 0 ∷ holding 0x01 0 ∷ holding 0x02 0 ∷ holding 0x03 0
    ∷ holding SIO 0 ∷ holding TMR 0 ∷ holding T1 0 ∷ holding PRE1 0 ∷ holding T0 0 ∷ holding PRE0 0
    ∷ holding P2M 0xFF ∷ holding P3M 0 ∷ holding P01M 0x4D
    ∷ holding IPR 0 ∷ holding IRQ 0 ∷ holding IMR 0 ∷ holding FLAGS 0 ∷ holding RP 0 ∷ holding SPH 0 ∷ holding SPL 0
    ∷ []

-- "prescalers 64, counters saved as 0", which is 256
abbrev pub full_timer : Timer
full_timer = record { prescaler = 64; counter = 256 }

-- the serial port at rest: nothing received yet, both halves idle ("After a hardware reset", 004, 12.3.1 and 12.4)
abbrev pub resting_port : Port
resting_port = record { receiver = waiting 0; transmitter = idle }

-- "Reset: PC 000C, [the places above,] divider 0; [..] T_OUT 1, prescalers 64, counters saved as 0, last pins all ones." And no EI has been
-- executed since: "IRQ bits D_0-D_5 are held at 0 until an EI instruction is executed" (004, 10.8; 02, C-13).
abbrev pub started_with : List ℕ → ℕ → ℕ → Machine
started_with file kind cost =
    record {
      regs = placed_all file reset_places;
      pc = 0x000C;
      divider = 0;
      t0 = full_timer;
      t1 = full_timer;
      last3 = 0xFF;
      tout = true;
      kind = kind;
      cost = cost;
      released = false;
      port = resting_port;
    }

-- "R4 to R127, type and entry cost stay"
unfoldable pub reset_of : Machine → Machine
reset_of m = started_with m.regs m.kind m.cost

-- "a new machine has R4 to R127 zero"
unfoldable pub new_of : ℕ → ℕ → Machine
new_of kind cost = started_with (replicate file_length 0) kind cost

-- "A new machine: type 11 and entry cost 20 unless others are named"
unfoldable pub default_of : Machine
default_of = new_of 11 20

-- "type 1 or 11", "entry cost 6 to 63"
abbrev pub is_kind : ℕ → Bool
is_kind kind = eqb kind 1 || eqb kind 11

abbrev pub is_cost : ℕ → Bool
is_cost cost = leb 6 cost && leb cost 63

-- refusal 3: "type not 1 or 11, or entry cost not 6 to 63, at making"
unfoldable pub made_of : ℕ → ℕ → Result Machine Refusal
made_of kind cost = pick (is_kind kind && is_cost cost) (Ok (new_of kind cost)) (Err refusal.Making)
