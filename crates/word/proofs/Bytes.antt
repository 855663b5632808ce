-- An operand byte's displacement as the code computes it: each fact at all 256 bytes by one computed test.
use Rattle.std.proofs.Common.{◌≡◌, ℕ, ◌+◌, ◌%◌, ◌^◌, ◌<◌, ℤ, w8, w16, to_z, of_z, ltb, refl, arith}
use Rattle.word.proofs.Computed.{by_test, agree}
use Rattle.word.specs.Words.{disp_of, moved_by}

-- what 8 bits hold, and 16, read as a signed number
abbrev at8 : ℤ → ℤ
at8 d = to_z w8 (of_z w8 d)

abbrev pub at16 : ℤ → ℤ
at16 d = to_z w16 (of_z w16 d)

-- a byte read as a signed number, in 16 bits
pub signed : (b : ℕ) → b < 256 → at16 (at8 (to_z w8 b)) ≡ disp_of b
unfolding disp_of
signed b h = agree (λ x. at16 (at8 (to_z w8 x))) disp_of 256 refl b h

in16 : (b : ℕ) → b < 256 → at16 (disp_of b) ≡ disp_of b
unfolding disp_of
in16 b h = agree (λ x. at16 (disp_of x)) disp_of 256 refl b h

-- a displacement added to a word as its 16 bits
pub moves : (w b : ℕ) → b < 256 → (w + of_z w16 (at16 (disp_of b))) % 2 ^ 16 ≡ moved_by w (disp_of b)
unfolding disp_of moved_by
moves w b h =
    rw (in16 b h)
    (by_test (λ d. (w + of_z w16 d) % 2 ^ 16 ≡ moved_by w d) (ltb b 128) (λ t. refl) (λ t. omega arith))
