use Rattle.std.proofs.Common.{◌≡◌, ℕ, ◌*◌, ◌/◌, ◌%◌, ◌^◌, ◌<◌, Bool, false, eqb, get_or, refl, ◌∙◌, arith}
use mathlib.Core.Bool.{xor}
use Rattle.word.specs.Fields.{bit_of, upper}
use Rattle.word.proofs.Computed.{agree2}
use Rattle.alu.specs.Conditions.{conditions, holds_of}
use Rattle.alu.specs.ForCode.{holding_of}
use Rattle.alu.proofs.conditions.holds.Goals as goal

-- a code's bit in a row, at all rows and codes
in_row : (code czsv : ℕ) → code < 16 → czsv < 16 → eqb (holding_of czsv / 2 ^ code % 2) 1 ≡ holds_of code (czsv * 16)
unfolding holding_of holds_of xor
in_row code czsv h l = agree2 (λ k n. eqb (holding_of k / 2 ^ n % 2) 1) (λ k n. holds_of n (k * 16)) 16 16 refl czsv code l h

-- the lower four bits of FLAGS are not looked at
byFlags : ℕ → ℕ → ℕ → ℕ → ℕ → Bool
byFlags code c z s v = get_or (conditions (eqb c 1) (eqb z 1) (eqb s 1) (eqb v 1)) code false

same_flags : (code : ℕ) {c z s v d y t w : ℕ} → c ≡ d → z ≡ y → s ≡ t → v ≡ w → byFlags code c z s v ≡ byFlags code d y t w
same_flags code ec ez es ev = rw (ec, ez, es, ev)

upper_alone : (code f : ℕ) → holds_of code (upper f * 16) ≡ holds_of code f
unfolding holds_of byFlags
upper_alone code f =
    let c : bit_of 7 (upper f * 16) ≡ bit_of 7 f = omega arith in
    let z : bit_of 6 (upper f * 16) ≡ bit_of 6 f = omega arith in
    let s : bit_of 5 (upper f * 16) ≡ bit_of 5 f = omega arith in
    let v : bit_of 4 (upper f * 16) ≡ bit_of 4 f = omega arith in
    same_flags code c z s v

pub returns-else-cc-eq8 : goal.returns-else-cc-eq8
returns-else-cc-eq8 c =
    rw c.holding.ensures (in_row c.args.cc (upper c.args.f) (omega arith) (omega arith) ∙ upper_alone c.args.cc c.args.f)
