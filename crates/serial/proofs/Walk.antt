-- A path whose places follow one another up to a last one that stays: where n steps along it lead.
use mathlib.Core.Path.{◌≡◌, ap, ◌∙◌}
use Prim.Native.Nat.{ℕ, zero, suc, ◌+◌, ◌-◌, ◌≤◌, ◌<◌}
use native.Mathlib.Nat.{zero-add}
use native.Mathlib.Omega.{arith}
use Rattle.word.specs.Iter.{iter}
use Rattle.word.proofs.Iterate.{iter_zero, iter_suc, iter_split, iter_fixed}

module _ {A : Type 0} (f : A → A) (path : ℕ → A) (first top : ℕ) (next : (d : ℕ) → first ≤ d → d < top → f (path d) ≡ path (suc d)) where
  pub walk : (n d : ℕ) → first ≤ d → n + d ≤ top → iter n f (path d) ≡ path (n + d)
  walk zero d l h = iter_zero f (path d) ∙ rw (zero-add d)
  walk (suc n) d l h =
      let on : suc (n + d) ≡ suc n + d = omega arith in
      iter_suc f n (path d) ∙ ap f (walk n d l (omega arith)) ∙ next (n + d) (omega arith) (omega arith) ∙ ap path on

  pub walk_out : f (path top) ≡ path top → (n d : ℕ) → first ≤ d → d ≤ top → top ≤ n + d → iter n f (path d) ≡ path top
  walk_out rest n d l h k =
      let there : top - d + d ≡ top = omega arith in
      iter_split f n (n + d - top) (top - d) (omega arith) (path d)
      ∙ ap (iter (n + d - top) f) (walk (top - d) d l (omega arith) ∙ ap path there)
      ∙ iter_fixed f (path top) rest (n + d - top)
