-- What the order asks of a machine beyond the contracts: a store moves nothing else, the Ex rule is applied once, a span moves the timers'
-- part alone, and the closed formula.
use mathlib.Core.Path.{◌≡◌, ◌∙◌, refl, ap, sym}
use mathlib.Core.Logic.{◌≢◌}
use mathlib.Core.Bool.{Bool, true, false}
use Prim.Native.Nat.{ℕ, ◌+◌, ◌*◌, ◌/◌, ◌%◌, ◌^◌, ◌<◌}
use native.Mathlib.Omega.{arith}
use borrow.Author.Tests.{eqb-true, ne_eqb}
use lib.Dec.{eqb, ltb, eqb→eq}
use lib.ListN.{length}
use lib.Bits.{bit_and, or_mod, or_zero_r}
use Rattle.word.specs.Fields.{bit_of, lower}
use Rattle.word.proofs.Computed.{by_test, agree}
use Rattle.timers.specs.Requests.{latch, latched_if}
use Rattle.timers.specs.Control.{setting_of, setup_of}
use Rattle.timers.specs.Clock.{end_of, asked_for, bit_clock, end0_of, tick_both, cycle, cycles, begun, at_divider, Which, T0, T1, setup_for, counting_for, ends_for, gone, Steady}
use Rattle.timers.specs.declared.Setup.{Setup}
use Rattle.timers.specs.declared.Setting.{Setting}
use Rattle.timers.specs.declared.Source.TheVariants.{Divider}
use Rattle.timers.specs.declared.RequestRegister.{RequestRegister}
use Rattle.timers.specs.declared.Lines.{Lines}
use Rattle.timers.specs.declared.Moving.{Moving}
use Rattle.timers.specs.declared.Spanned.{Spanned}
use Rattle.word.proofs.Iterate.{iter_keeps}
use Rattle.serial.specs.Port.{port_end}
use Rattle.serial.specs.declared.Mode.{Mode}
use Rattle.timers.proofs.Formula.{formula}
use Rattle.timers.proofs.Latched.{fits_irq}
use Rattle.timers.proofs.Held.{cycles_hold}
use Rattle.timers.proofs.Legal.{cycles_legal}
use Rattle.machine.specs.State.{core_of, held, placed, with_released, with_port, with_transmitter}
use Rattle.machine.specs.Clock.{Ran, control_of, moving_of, counts_at, moved_to, write_tmr, shown, span_of}
use Rattle.machine.specs.Registers.{is_hole, read_reg, write_port, write_reg}
use Rattle.machine.specs.Addresses.{working_at, register_at, indirect_at}
use Rattle.machine.specs.Legal.{may_hold, Legal}
use Rattle.machine.specs.declared.Machine.{Machine}
use Rattle.machine.specs.declared.Pins.{Pins}
use Rattle.machine.proofs.Places.{held_other}
use Rattle.machine.proofs.Sio.{sio_either}
use Rattle.machine.proofs.Held.{irq_either}
use Rattle.machine.proofs.Ranges.{empty_hole}
use Rattle.machine.proofs.Lens.{put_tmr, put_irq, put_other, rest_kept, span_is}
use Rattle.machine.proofs.Legal.{setting_of_lem}

-- a store to register a leaves every other place
pub store_leaves : (m : Machine) (a v b : ℕ) → b ≢ a → held (write_reg m a v) b ≡ held m b
unfolding write_reg write_port write_tmr with_transmitter with_port counts_at placed
store_leaves m a v b n =
    by_test S (ltb a 0x04) (λ t. held_other m.regs a b _ n) (λ t.
    by_test S (is_hole a) (λ u. by_test S (eqb a 0xF0) (λ e. sio_either m v S refl refl) (λ e. refl)) (λ u.
    by_test S (eqb a 0xF1) (λ e. held_other m.regs 0xF1 b _ (λ own. n (own ∙ sym (eqb-true a 0xF1 e)))) (λ u.
    by_test S (eqb a 0xFA) (λ e. irq_either m v S (λ released. held_other m.regs 0xFA b _ (λ own. n (own ∙ sym (eqb-true a 0xFA e)))) refl) (λ u.
    by_test S (eqb a 0xFD) (λ e. held_other m.regs a b _ n) (λ u. held_other m.regs a b _ n)))))
  where
    S : Machine → Type 0
    S k = held k b ≡ held m b

-- and, but for SIO and TMR, all that is no place
pub store_leaves_core : (m : Machine) (a v : ℕ) → a ≢ 0xF0 → a ≢ 0xF1 → core_of (write_reg m a v) ≡ core_of m
unfolding write_reg write_port placed
store_leaves_core m a v z n =
    rw (ne_eqb a 0xF0 z, ne_eqb a 0xF1 n)
    (by_test S (ltb a 0x04) (λ t. refl) (λ t.
    by_test S (is_hole a) (λ u. refl) (λ u.
    by_test S (eqb a 0xFA) (λ e. irq_either m v S (λ released. refl) refl) (λ u.
    by_test S (eqb a 0xFD) (λ e. refl) (λ u. refl)))))
  where
    S : Machine → Type 0
    S k = core_of k ≡ core_of m

-- an address Ex that is found inside a register is that hole, whatever RP is: the Ex rule isn't applied to it
pub found_as_it_is : (p : Pins) (m : Machine) (b x v : ℕ) → read_reg p m (register_at m b) ≡ 0xE0 + x → x < 16
    → (read_reg p m (indirect_at p m b) ≡ 0xFF) × (write_reg m (indirect_at p m b) v ≡ m)
unfolding indirect_at
found_as_it_is p m b x v e h = rw e (empty_hole p m (0xE0 + x) v (omega arith) (omega arith))

-- and with RP E0 a field Ex is that hole too
pub hole_group : (m : Machine) (x : ℕ) → held m 0xFD ≡ 0xE0 → x < 16 → register_at m (0xE0 + x) ≡ 0xE0 + x
unfolding register_at working_at
hole_group m x e h =
    let work : (0xE0 + x) / 16 ≡ 0x0E = omega arith in
    let low : (0xE0 + x) % 16 ≡ x = omega arith in
    rw (e, work, low)

-- the bits that a legal machine hasn't read 0: IRQ's 6 and 7 (004, 10.8), RP's low nibble (HOUSE), IMR's 6 (004, 10.8) in any machine
pub unheld_bits : (p : Pins) (m : Machine) → Legal m → (read_reg p m 0xFA < 64) × (lower (read_reg p m 0xFD) ≡ 0) × (bit_of 6 (read_reg p m 0xFB) ≡ 0)
unfolding read_reg may_hold moving_of
unheld_bits p m l = (
  fits_irq (moving_of m).lines.requests l.moving.requests_fit_lem,
  eqb→eq (lower (held m 0xFD)) 0 (l.file.places 0xFD),
  agree (λ v. bit_of 6 (bit_and v 0xBF)) (λ v. 0) 256 refl (held m 0xFB) (l.file.bytes 0xFB),
)

-- ---- a span
-- no end touches requests 0 to 2
latch_leaves : (n : ℕ) (r : RequestRegister) → 2 ^ n % 8 ≡ 0 → (latch n r).irq % 8 ≡ r.irq % 8
unfolding latch
latch_leaves n r e = by_test (λ (v : ℕ). v % 8 ≡ r.irq % 8) r.released (λ t. or_mod r.irq (2 ^ n) 3 ∙ rw e (or_zero_r (r.irq % 8))) (λ t. refl)

if_leaves : (asked : Bool) (n : ℕ) (r : RequestRegister) → 2 ^ n % 8 ≡ 0 → (latched_if asked n r).irq % 8 ≡ r.irq % 8
unfolding latched_if
if_leaves true n r e = latch_leaves n r e
if_leaves false n r e = refl

end_leaves : (s : Setup) → 2 ^ s.request % 8 ≡ 0 → (l : Lines) → (end_of s l).requests.irq % 8 ≡ l.requests.irq % 8
unfolding end_of
end_leaves s e l = latch_leaves s.request l.requests e

end0_leaves : (m : Mode) (s : Setup) → 2 ^ s.request % 8 ≡ 0 → (l : Lines) → (end0_of m s l).requests.irq % 8 ≡ l.requests.irq % 8
unfolding end0_of bit_clock asked_for
end0_leaves m s e l =
    by_test (λ (x : Lines). x.requests.irq % 8 ≡ l.requests.irq % 8) m.on
    (λ t. if_leaves (port_end m l.port).asked3 3 _ refl ∙ if_leaves (port_end m l.port).asked4 4 l.requests refl)
    (λ t. end_leaves s e l)

module _ (m : Machine) where
  abbrev set : Setting
  set = setting_of (control_of m)

  abbrev Low : ℕ → Spanned → Type 0
  Low irq x = x.moving.lines.requests.irq % 8 ≡ irq % 8

  both_leave : (irq : ℕ) (x : Spanned) → Low irq x → Low irq (tick_both Divider set x)
  unfolding tick_both setting_of setup_of
  both_leave irq x e =
      iter_keeps (end_of set.t1) L (λ l h. end_leaves set.t1 refl l ∙ h) _ _
      (iter_keeps (end0_of set.port set.t0) L (λ l h. end0_leaves set.port set.t0 refl l ∙ h) _ x.moving.lines e)
    where
      L : Lines → Type 0
      L l = l.requests.irq % 8 ≡ irq % 8

  cycle_leaves : (irq : ℕ) (x : Spanned) → Low irq x → Low irq (cycle set x)
  unfolding cycle
  cycle_leaves irq x e =
      by_test (Low irq) (eqb ((x.moving.divider + 1) % 4) 0) (λ t. both_leave irq (at_divider x ((x.moving.divider + 1) % 4)) e) (λ t. e)

  cycles_leave : (n : ℕ) → (cycles set n (moving_of m)).moving.lines.requests.irq % 8 ≡ (moving_of m).lines.requests.irq % 8
  unfolding cycles
  cycles_leave n =
      let irq = (moving_of m).lines.requests.irq in
      iter_keeps (cycle set) (Low irq) (cycle_leaves irq) n (begun (moving_of m)) refl

-- of a request byte below 64, all but requests 3 to 5
low_bits : (x : ℕ) → x < 64 → bit_and x 0xC7 ≡ x % 8
low_bits x h = agree (λ y. bit_and y 0xC7) (λ y. y % 8) 64 refl x h

-- all that a span moves: the divider, the counts, T_OUT, the enable bits of TMR, requests 3 to 5, the serial port. So it releases nothing.
pub record SpanLeaves (m k : Machine) : Type 0 where
  pub places : (a : ℕ) → (a ≡ 0xF1 → ⊥) → (a ≡ 0xFA → ⊥) → held k a ≡ held m a
  pub tmr_but_enables : bit_and (held k 0xF1) 0xF5 ≡ bit_and (held m 0xF1) 0xF5
  pub irq_but_requests_3_to_5 : bit_and (held k 0xFA) 0xC7 ≡ bit_and (held m 0xFA) 0xC7
  pub pc : k.pc ≡ m.pc
  pub last3 : k.last3 ≡ m.last3
  pub kind : k.kind ≡ m.kind
  pub cost : k.cost ≡ m.cost
  pub released : k.released ≡ m.released

pub span_leaves : (m : Machine) → Legal m → (n : ℕ) → SpanLeaves m (span_of n m).machine
unfolding moving_of moved_to placed counts_at with_released with_port shown
span_leaves m l n =
    let s = setting_of (control_of m) in
    let x = (cycles s n (moving_of m)).moving in
    let small = fits_irq x.lines.requests (cycles_legal s (setting_of_lem l) n (moving_of m) l.moving).requests_fit_lem in
    rw (span_is m long byte n) (moved_leaves x (cycles_leave m n) small (cycles_hold s n (moving_of m)).mark_stays)
  where
    long : length m.regs ≡ 256
    long = l.file.long

    byte : held m 0xF1 < 256
    byte = l.file.bytes 0xF1

    small : held m 0xFA < 64
    small = fits_irq (moving_of m).lines.requests l.moving.requests_fit_lem

    moved_leaves : (x : Moving) → x.lines.requests.irq % 8 ≡ held m 0xFA % 8 → x.lines.requests.irq < 64 → x.lines.requests.released ≡ m.released
        → SpanLeaves m (moved_to m x)
    moved_leaves x e h mark =
        record {
          places = put_other m long byte x;
          tmr_but_enables = ap (λ (t : ℕ). bit_and t 0xF5) (put_tmr m long byte x) ∙ rest_kept x.t0.enabled x.t1.enabled (held m 0xF1) byte;
          irq_but_requests_3_to_5 =
              ap (λ (i : ℕ). bit_and i 0xC7) (put_irq m long byte x) ∙ low_bits x.lines.requests.irq h ∙ e ∙ sym (low_bits (held m 0xFA) small);
          pc = refl;
          last3 = refl;
          kind = refl;
          cost = refl;
          released = mark;
        }

-- Demand 3 of a machine. Its first sentence is the contract of `clock::span`: the move by division is the single cycles. Its second: a
-- timer that takes the divider's ticks, enabled and repeating, its counts within P and N, ends once in 4 x P x N cycles, those already
-- gone counted in.
abbrev pub ends_of : Which → Ran → ℕ
ends_of T0 r = r.ends0
ends_of T1 r = r.ends1

pub ends_by_formula : (m : Machine) → Legal m → (w : Which) (n : ℕ)
    → Steady (setup_for w (setting_of (control_of m))) (counting_for w (moving_of m))
    → ends_of w (span_of n m)
    ≡ (n + gone m.divider (setup_for w (setting_of (control_of m))) (counting_for w (moving_of m)))
    / (4 * (setup_for w (setting_of (control_of m))).p * (setup_for w (setting_of (control_of m))).n)
unfolding shown moving_of
ends_by_formula m l w n st =
    ends_shown w ∙ formula (setting_of (control_of m)) (moving_of m) (setting_of_lem l) l.moving w n st
  where
    ends_shown : (v : Which) → ends_of v (span_of n m) ≡ ends_for v (cycles (setting_of (control_of m)) n (moving_of m))
    ends_shown T0 = ap (λ (r : Ran). r.ends0) (span_is m l.file.long (l.file.bytes 0xF1) n)
    ends_shown T1 = ap (λ (r : Ran). r.ends1) (span_is m l.file.long (l.file.bytes 0xF1) n)
