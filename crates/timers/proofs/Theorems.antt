-- What the definitions promise besides.
use mathlib.Core.Path.{◌≡◌, refl}
use mathlib.Core.Bool.{and-false}
use Prim.Native.Nat.{ℕ, zero, suc, ◌+◌, ◌%◌, ◌≤◌}
use native.Mathlib.Omega.{arith}
use lib.Dec.{eqb, ltb}
use Rattle.word.proofs.Computed.{by_test}
use Rattle.word.specs.Iter.{iter}
use Rattle.timers.specs.Control.{setup_of, setting_of}
use Rattle.timers.specs.Timer.{tick, moves, ticked}
use Rattle.timers.specs.Clock.{tick_both, cycle, cycles, begun, at_divider, edge_of}
use Rattle.timers.specs.declared.Control.{Control}
use Rattle.timers.specs.declared.Source.{Source}
use Rattle.timers.specs.declared.Source.TheVariants.{Divider, Edges}
use Rattle.timers.specs.declared.Setup.{Setup}
use Rattle.timers.specs.declared.Setting.{Setting}
use Rattle.timers.specs.declared.Counting.{Counting}
use Rattle.timers.specs.declared.Ticked.{Ticked}
use Rattle.timers.specs.declared.Moving.{Moving}
use Rattle.timers.specs.declared.Spanned.{Spanned}

-- an edge of P31 leaves T0 and the divider, whatever the registers say
pub edge_leaves_t0 : (c : Control) (m : Moving)
    → ((edge_of (setting_of c) m).moving.t0 ≡ m.t0) × ((edge_of (setting_of c) m).ends0 ≡ 0) × ((edge_of (setting_of c) m).moving.divider ≡ m.divider)
unfolding edge_of tick_both ticked setting_of setup_of
edge_leaves_t0 c m = (rw (and-false m.t0.enabled), rw (and-false m.t0.enabled), refl)

-- a tick ends a count at most once, and so do a cycle and an edge
ticked_ends : (by : Source) (s : Setup) (c : Counting) → (ticked by s c).ends ≤ 1
unfolding ticked tick
ticked_ends by s c =
    by_test (λ (a : Ticked). a.ends ≤ 1) (moves by s c)
    (λ e.
    by_test (λ (a : Ticked). a.ends ≤ 1) (ltb 1 c.timer.prescaler) (λ t. omega arith)
    (λ t. by_test (λ (a : Ticked). a.ends ≤ 1) (ltb 1 c.timer.counter) (λ t. omega arith) (λ t. omega arith)))
    (λ e. omega arith)

module _ (s : Setting) where
  -- not over so many ends
  abbrev pub Within : ℕ → Spanned → Type 0
  Within n x = (x.ends0 ≤ n) × (x.ends1 ≤ n)

  both_within : (by : Source) (n : ℕ) (x : Spanned) → Within n x → Within (suc n) (tick_both by s x)
  unfolding tick_both
  both_within by n x h =
      (omega (arith, h.0, ticked_ends by s.t0 x.moving.t0), omega (arith, h.1, ticked_ends by s.t1 x.moving.t1))

  pub edge_within : (m : Moving) → Within 1 (edge_of s m)
  unfolding edge_of
  edge_within m = both_within Edges 0 (begun m) (omega arith, omega arith)

  cycle_within : (n : ℕ) (x : Spanned) → Within n x → Within (suc n) (cycle s x)
  unfolding cycle
  cycle_within n x h =
      let d = (x.moving.divider + 1) % 4 in
      by_test (Within (suc n)) (eqb d 0) (λ t. both_within Divider n (at_divider x d) h) (λ t. (omega (arith, h.0), omega (arith, h.1)))

  pub cycles_within : (n : ℕ) (m : Moving) → Within n (cycles s n m)
  unfolding cycles iter
  cycles_within zero m = (omega arith, omega arith)
  cycles_within (suc n) m = cycle_within n (cycles s n m) (cycles_within n m)
