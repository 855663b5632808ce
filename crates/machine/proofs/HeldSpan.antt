-- A span of a machine before its first EI (02, C-13: "Until then edges and timer ends latch nothing"; "Ends are counted and T_OUT flips as
-- before"). That the move by division is the single cycles, the request register in it, is the contract of `clock::span`. Here is what those
-- cycles come to: a span releases nothing; held, IRQ stays zero; and all else moves as it does released.
use mathlib.Core.Path.{◌≡◌, ◌∙◌, refl, ap, sym, subst}
use mathlib.Core.Logic.{◌≢◌}
use mathlib.Core.Bool.{true, false}
use Prim.Native.Nat.{ℕ, ◌<◌}
use native.Mathlib.Decide.{ℕ_discrete}
use lib.ListN.{length}
use Rattle.timers.specs.Control.{setting_of}
use Rattle.timers.specs.Clock.{cycles}
use Rattle.timers.specs.declared.Counting.{Counting}
use Rattle.timers.specs.declared.Setting.{Setting}
use Rattle.timers.specs.declared.Moving.{Moving}
use Rattle.timers.specs.declared.Spanned.{Spanned}
use Rattle.timers.proofs.Latched.{fits_zero}
use Rattle.timers.proofs.Held.{Holds, CyclesAlike, cycles_hold, requests_move_nothing}
use Rattle.machine.specs.Names.{TMR, IRQ}
use Rattle.machine.specs.State.{held, placed, with_released, with_port}
use Rattle.machine.specs.Clock.{Ran, control_with, control_of, moving_of, counts_at, moved_to, shown, span_of}
use Rattle.machine.specs.Registers.{read_reg}
use Rattle.machine.specs.Legal.{Legal}
use Rattle.machine.specs.declared.Machine.{Machine}
use Rattle.machine.specs.declared.Pins.{Pins}
use Rattle.machine.proofs.Lens.{put_tmr, put_seen, put_other, span_is}
use Rattle.machine.proofs.SerialSpan.{requests_of}
use Rattle.machine.proofs.Legal.{span_legal}

-- "and it reads 0"
pub held_reads_zero : (p : Pins) (m : Machine) → Legal m → m.released ≡ false → read_reg p m IRQ ≡ 0
unfolding read_reg moving_of
held_reads_zero p m l held = fits_zero (requests_of m) l.moving.requests_fit_lem held

module _ (m : Machine) (l : Legal m) (n : ℕ) where
  abbrev set : Setting
  set = setting_of (control_of m)

  span_holds : Holds (requests_of m) (requests_of (span_of n m).machine)
  unfolding shown
  span_holds =
      let after = cycles set n (moving_of m) in
      let seen : requests_of (shown m after).machine ≡ after.moving.lines.requests =
      ap (λ (x : Moving). x.lines.requests) (put_seen m l.file.long (l.file.bytes TMR) after.moving) in
      let span_seen : requests_of (span_of n m).machine ≡ after.moving.lines.requests =
      ap (λ (r : Ran). requests_of r.machine) (span_is m l.file.long (l.file.bytes TMR) n) ∙ seen in
      subst (Holds (requests_of m)) (sym span_seen) (cycles_hold set n (moving_of m))

  pub span_releases_none : (span_of n m).machine.released ≡ m.released
  unfolding moving_of
  span_releases_none = span_holds.mark_stays

  pub span_latches_none : m.released ≡ false → held (span_of n m).machine IRQ ≡ 0
  unfolding moving_of
  span_latches_none held-yet =
      fits_zero (requests_of (span_of n m).machine) (span_legal n l).moving.requests_fit_lem (span_releases_none ∙ held-yet)

-- what two machines and their ends have in common: all but IRQ, and whether it is released
pub record AlikeButRequests (x y : Ran) : Type 0 where
  pub ends0_same : y.ends0 ≡ x.ends0
  pub ends1_same : y.ends1 ≡ x.ends1
  pub places_same : (a : ℕ) → a ≢ IRQ → held y.machine a ≡ held x.machine a
  pub divider_same : y.machine.divider ≡ x.machine.divider
  pub t0_same : y.machine.t0 ≡ x.machine.t0
  pub t1_same : y.machine.t1 ≡ x.machine.t1
  pub tout_same : y.machine.tout ≡ x.machine.tout
  pub port_same : y.machine.port ≡ x.machine.port
  pub pc_same : y.machine.pc ≡ x.machine.pc
  pub last3_same : y.machine.last3 ≡ x.machine.last3
  pub kind_same : y.machine.kind ≡ x.machine.kind
  pub cost_same : y.machine.cost ≡ x.machine.cost

-- so before the first EI a span moves all else as after it
module _ (m : Machine) (l : Legal m) where
  abbrev released : Machine
  released = with_released m true

  -- the places after what was moved alike
  places_alike : (x y : Spanned) → CyclesAlike x y → (a : ℕ) → a ≢ IRQ → held (moved_to released y.moving) a ≡ held (moved_to m x.moving) a
  unfolding with_released
  places_alike x y alike a other = go (ℕ_discrete a TMR)
    where
      long : length m.regs ≡ 256
      long = l.file.long

      byte : held m TMR < 256
      byte = l.file.bytes TMR

      go : Dec (a ≡ TMR) → held (moved_to released y.moving) a ≡ held (moved_to m x.moving) a
      go (yes own) =
          rw (own, put_tmr released long byte y.moving, put_tmr m long byte x.moving, alike.t0_same, alike.t1_same)
      go (no not-tmr) = put_other released long byte y.moving a not-tmr other ∙ sym (put_other m long byte x.moving a not-tmr other)

  shown_alike : (x y : Spanned) → CyclesAlike x y → AlikeButRequests (shown m x) (shown released y)
  unfolding shown moved_to placed counts_at with_released with_port
  shown_alike x y alike =
      record {
        ends0_same = alike.ends0_same;
        ends1_same = alike.ends1_same;
        places_same = places_alike x y alike;
        divider_same = alike.divider_same;
        t0_same = ap (λ (c : Counting). c.timer) alike.t0_same;
        t1_same = ap (λ (c : Counting). c.timer) alike.t1_same;
        tout_same = alike.lines_alike.tout_alike;
        port_same = alike.lines_alike.port_alike;
        pc_same = refl;
        last3_same = refl;
        kind_same = refl;
        cost_same = refl;
      }

  pub span_moves_as_released : (n : ℕ) → AlikeButRequests (span_of n m) (span_of n (with_released m true))
  unfolding control_of control_with moving_of with_released
  span_moves_as_released n =
      let s = setting_of (control_of m) in
      rw (span_is m l.file.long (l.file.bytes TMR) n, span_is released l.file.long (l.file.bytes TMR) n)
      (shown_alike _ _ (requests_move_nothing s n (moving_of m) l.moving.divider_high (requests_of released)))
