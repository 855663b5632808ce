-- A refusal has a number, and none is 0, which is answered where nothing is refused.
use Rattle.std.proofs.Common.{◌≡◌, ℕ, false, refl, sym, ap, subst, eqb, ◌∙◌}
use lib.Dec.{T}
use Rattle.numbers.specs.Numbers.{number_of}
use Rattle.numbers.specs.declared.Refusal.{Refusal}
use Rattle.numbers.specs.declared.Refusal.TheVariants as refusal

pub numbered : (e : Refusal) → eqb (number_of e) 0 ≡ false
numbered refusal.Image = refl
numbered refusal.Data = refl
numbered refusal.Making = refl
numbered refusal.Budget = refl
numbered refusal.Opcode = refl
numbered refusal.Machine = refl
numbered refusal.Length = refl
numbered refusal.Instruction = refl

pub number_some : (e : Refusal) → number_of e ≡ 0 → ⊥
number_some e z = subst T (sym (ap (λ (n : ℕ). eqb n 0) z) ∙ numbered e) tt
