-- Choices by a port's number, a type, an entry cost.
use mathlib.Core.Path.{◌≡◌}
use Prim.Native.Nat.{ℕ}
use borrow.Author.Tests.{ne_eqb}
use Rattle.machine.specs.Ports.{of_port}

-- of a port that is none of 0, 1 and 2
pub last_port : {A : Type 0} (n : ℕ) (p0 p1 p2 p3 : A) → (n ≡ 0 → ⊥) → (n ≡ 1 → ⊥) → (n ≡ 2 → ⊥) → p3 ≡ of_port n p0 p1 p2 p3
last_port n p0 p1 p2 p3 h0 h1 h2 = rw (ne_eqb n 0 h0, ne_eqb n 1 h1, ne_eqb n 2 h2)
