-- A list's elements, whatever stands for those past its end.
use mathlib.Core.Path.{◌≡◌, refl}
use mathlib.Core.List.{List, [], ◌∷◌}
use Prim.Native.Nat.{ℕ, zero, suc, ◌<◌}
use native.Mathlib.Nat.{not-suc-le-zero}
use native.Mathlib.Omega.{arith}
use lib.ListN.{get_or, length}

pub element : (l : List ℕ) (i d e : ℕ) → i < length l → get_or l i d ≡ get_or l i e
element [] i d e h = absurd (not-suc-le-zero h)
element (x ∷ l) zero d e h = refl
element (x ∷ l) (suc i) d e h = element l i d e (omega arith)
