-- Cycles in a row: a cycles and then b are a + b, and their ends add up.
use mathlib.Core.Path.{◌≡◌, refl, ap, ◌∙◌}
use mathlib.Core.Bool.{Bool, true, false}
use Prim.Native.Nat.{ℕ, ◌+◌, ◌%◌}
use native.Mathlib.Nat.{zero-add, add_comm, add_right_comm}
use lib.Dec.{eqb}
use Rattle.word.specs.Iter.{iter}
use Rattle.timers.specs.Clock.{tick_both, cycle, cycles, begun, at_divider}
use Rattle.timers.specs.declared.Source.TheVariants.{Divider}
use Rattle.timers.specs.declared.Setting.{Setting}
use Rattle.timers.specs.declared.Moving.{Moving}
use Rattle.timers.specs.declared.Spanned.{Spanned}
use Rattle.word.proofs.Iterate.{iter_split, iter_past}
use Rattle.timers.specs.ForCode.{added}

module _ (s : Setting) (e0 e1 : ℕ) where
  both_added : (x : Spanned) → tick_both Divider s (added x e0 e1) ≡ added (tick_both Divider s x) e0 e1
  unfolding tick_both
  both_added x = rw (add_right_comm x.ends0 e0, add_right_comm x.ends1 e1)

  cycle_added : (x : Spanned) → cycle s (added x e0 e1) ≡ added (cycle s x) e0 e1
  unfolding cycle
  cycle_added x = go (eqb ((x.moving.divider + 1) % 4) 0) refl
    where
      go : (b : Bool) → eqb ((x.moving.divider + 1) % 4) 0 ≡ b → cycle s (added x e0 e1) ≡ added (cycle s x) e0 e1
      go true e = rw e (both_added (at_divider x ((x.moving.divider + 1) % 4)))
      go false e = rw e

pub cycles_in_a_row : (s : Setting) (a b : ℕ) (m : Moving)
    → cycles s (a + b) m ≡ added (cycles s b (cycles s a m).moving) (cycles s a m).ends0 (cycles s a m).ends1
unfolding cycles
cycles_in_a_row s a b m =
    let x : Spanned = iter a (cycle s) (begun m) in
    iter_split (cycle s) (a + b) b a (add_comm a b) (begun m)
    ∙ ap (iter b (cycle s)) (from_nothing x)
    ∙ iter_past (cycle s) (λ (y : Spanned). added y x.ends0 x.ends1) (cycle_added s x.ends0 x.ends1) b (begun x.moving)
  where
    from_nothing : (x : Spanned) → x ≡ added (begun x.moving) x.ends0 x.ends1
    from_nothing x = rw (zero-add x.ends0, zero-add x.ends1)
