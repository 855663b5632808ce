-- What the definitions promise besides: that flags are laid bit by bit, and that no two rows of DA are for the same byte.
use Rattle.std.proofs.Common.{◌≡◌, ℕ, ◌+◌, ◌-◌, ◌/◌, ◌^◌, ◌<◌, true, ◌&&◌, leb, List, [], ◌∷◌, refl, arith}
use lib.Bits.{bit_and, bit_or, and_shr, and_mod, or_shr, or_mod}
use Rattle.word.specs.Choose.{one_if}
use Rattle.word.specs.Fields.{bit_of}
use Rattle.word.proofs.Computed.{agree2, agree3}
use Rattle.alu.specs.declared.Flags.{Flags}
use Rattle.alu.specs.FlagByte.{laid}
use Rattle.alu.specs.Decimal.{Row, fits, after_addition, after_subtraction}

-- a bit of what is laid is the result of laying that bit
pub laid_bit : (n f : ℕ) (e : Flags)
    → bit_of n (laid f e) ≡ bit_or (bit_and (bit_of n f) (bit_of n (255 - e.affected))) (bit_of n e.ones)
unfolding laid
laid_bit n f e =
    rw (
      or_shr (bit_and f (255 - e.affected)) e.ones n,
      or_mod (bit_and f (255 - e.affected) / 2 ^ n) (e.ones / 2 ^ n) 1,
      and_shr f (255 - e.affected) n,
      and_mod (f / 2 ^ n) ((255 - e.affected) / 2 ^ n) 1,
    )

complement : (n m : ℕ) → n < 8 → m < 256 → bit_of n (255 - m) ≡ 1 - bit_of n m
complement n m h k = agree2 (λ n m. bit_of n (255 - m)) (λ n m. 1 - bit_of n m) 8 256 refl n m h k

module _ (n f : ℕ) (e : Flags) (h : n < 8) (k : e.affected < 256) where
  -- a bit that is not affected is f's
  pub unaffected_kept : bit_of n e.affected ≡ 0 → bit_of n e.ones ≡ 0 → bit_of n (laid f e) ≡ bit_of n f
  unaffected_kept a s =
      rw (laid_bit n f e, complement n e.affected h k, a, s)
      (agree2 (λ x y. bit_or (bit_and x 1) 0) (λ x y. x) 2 1 refl (bit_of n f) 0 (omega arith) (omega arith))

  -- a bit that is affected is the operation's
  pub affected_laid : bit_of n e.affected ≡ 1 → bit_of n (laid f e) ≡ bit_of n e.ones
  affected_laid a =
      rw (laid_bit n f e, complement n e.affected h k, a)
      (agree2 (λ x y. bit_or (bit_and x 0) y) (λ x y. y) 2 2 refl (bit_of n f) (bit_of n e.ones) (omega arith) (omega arith))

-- how many rows are for this byte, C and H
abbrev pub for_it : List Row → ℕ → ℕ → ℕ → ℕ
for_it [] v c h = 0
for_it (r ∷ rs) v c h = one_if (fits r v c h) + for_it rs v c h

-- at most one, after an addition as after a subtraction: it does not matter in which order the rows are tried
pub one_row : (v c h : ℕ) → v < 256 → c < 2 → h < 2 → leb (for_it after_addition v c h) 1 && leb (for_it after_subtraction v c h) 1 ≡ true
unfolding after_addition after_subtraction
one_row v c h k l m =
    agree3 (λ v c h. leb (for_it after_addition v c h) 1 && leb (for_it after_subtraction v c h) 1) (λ v c h. true) 256 2 2 refl v c h k l m
