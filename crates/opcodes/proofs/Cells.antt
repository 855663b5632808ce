-- A part of a map of 16 rows of 16 compared with what the code answers there, by computing both.
use mathlib.Core.Path.{◌≡◌, refl, sym, subst}
use mathlib.Core.Bool.{true, false, not}
use mathlib.Core.List.{List}
use Prim.Native.Nat.{ℕ, ◌+◌, ◌-◌, ◌*◌, ◌≤◌, ◌<◌}
use native.Mathlib.Omega.{arith}
use lib.Dec.{T, eqb, eqb→eq}
use lib.ListN.{get_or}
use borrow.Author.Tests.{ne_eqb}
use Rattle.word.specs.Fields.{upper, lower}
use Rattle.word.proofs.Computed.{made, agree2, fails, NoneOf, else_passes}
use Rattle.std.specs.Prelude.{Option, Some, None, Ok, Err}
use Rattle.numbers.specs.declared.Refusal.TheVariants as refusal
use Rattle.opcodes.specs.declared.Kind.{Kind}
use Rattle.opcodes.specs.Map.{entry_of}
use Rattle.opcodes.specs.Instruction.{defined, lengths, length_of, operand, decoded, decoded_as, decode_of}

-- f, of an upper and a lower nibble, in the m columns from j of the n rows from i
abbrev pub part : {A : Type 0} → ℕ → ℕ → ℕ → ℕ → (ℕ → ℕ → A) → List (List A)
part i n j m f = made (λ a. made (λ b. f (i + a) (j + b)) m) n

-- where f is what g has throughout a part, f of an opcode's nibbles is what g has at the opcode
pub in_part : {A : Type 0} (f : ℕ → ℕ → A) (g : ℕ → A) (i n j m op : ℕ) → (i ≤ upper op) × (upper op < i + n)
    → (j ≤ lower op) × (lower op < j + m) → part i n j m f ≡ part i n j m (λ hi lo. g (hi * 16 + lo)) → f (upper op) (lower op) ≡ g op
in_part f g i n j m op u l e =
    let a : i + (upper op - i) ≡ upper op = omega arith in
    let b : j + (lower op - j) ≡ lower op = omega arith in
    let w : upper op * 16 + lower op ≡ op = omega arith in
    rw (a, b, w)
    at (agree2 (λ a b. f (i + a) (j + b)) (λ a b. g ((i + a) * 16 + (j + b))) n m e (upper op - i) (lower op - j) (omega arith) (omega arith))

-- a cell without an instruction is blank
pub blank_is : (e : Option Kind) → T (not (defined e)) → None ≡ e
blank_is None t = refl
blank_is (Some k) t = absurd t

-- what is decoded, by whether the map has an instruction there
pub decoded_where : (op a b : ℕ) → defined (entry_of op) ≡ true → decode_of op a b ≡ Ok (decoded op (operand 2 op a) (operand 3 op b) (length_of op))
unfolding decode_of
decoded_where op a b d = go (entry_of op) d
  where
    go : (e : Option Kind) → defined e ≡ true → decoded_as e op a b ≡ Ok (decoded op (operand 2 op a) (operand 3 op b) (length_of op))
    go None d = absurd (subst T (sym d) tt)
    go (Some k) d = refl

pub decoded_where_not : (op a b : ℕ) → defined (entry_of op) ≡ false → decode_of op a b ≡ Err refusal.Opcode
unfolding decode_of
decoded_where_not op a b d = go (entry_of op) d
  where
    go : (e : Option Kind) → defined e ≡ false → decoded_as e op a b ≡ Err refusal.Opcode
    go None d = refl
    go (Some k) d = absurd (subst T d tt)

-- the length by a low nibble that is none of those with another length
pub nibble : (v op : ℕ) → (op ≡ 0xD4 → ⊥) → NoneOf (lower op) (fails (λ lo. eqb (get_or lengths lo 0) v) 16) → v ≡ length_of op
unfolding length_of
nibble v op d n =
    let e : get_or lengths (lower op) 0 ≡ v =
    eqb→eq (get_or lengths (lower op) 0) v (else_passes (λ lo. eqb (get_or lengths lo 0) v) 16 (lower op) (omega arith) n) in
    simp (ne_eqb op 0xD4 d) (sym e)
