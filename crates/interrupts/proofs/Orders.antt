-- Laws of the order of priorities.
use mathlib.Core.Path.{◌≡◌, refl, ap, ◌∙◌, subst}
use mathlib.Core.Bool.{Bool, true, false, ◌&&◌}
use mathlib.Core.List.{List, [], ◌∷◌, ◌++◌}
use Prim.Native.Nat.{ℕ, zero, suc, ◌<◌, ◌/◌, ◌%◌, ◌^◌}
use native.Mathlib.Omega.{arith}
use native.Mathlib.Nat.{zero-div}
use lib.Bits.{bit_and}
use lib.Dec.{T, ltb, ltb→lt}
use Rattle.word.specs.Choose.{pick}
use Rattle.word.specs.Fields.{is_set}
use Rattle.word.proofs.Computed.{NoneOf, and_left, and_right, at}
use Rattle.std.specs.Prelude.{Option, Some, None}
use Rattle.interrupts.specs.Grants.{group_a, group_b, group_c, ordered, priorities, first_standing, granted}
use Rattle.std.specs.Option.{option_or}
use Rattle.interrupts.specs.ForCode.{standing_of}

module _ (standing : ℕ) where
  -- the first of two lists together is the first of the one, or else of the other
  pub first_after : (xs ys : List ℕ) → first_standing (xs ++ ys) standing ≡ option_or (first_standing xs standing) (first_standing ys standing)
  unfolding first_standing
  first_after [] ys = refl
  first_after (n ∷ ns) ys = go (is_set n standing) (first_after ns ys)
    where
      go : (b : Bool) → first_standing (ns ++ ys) standing ≡ option_or (first_standing ns standing) (first_standing ys standing)
          → pick b (Some n) (first_standing (ns ++ ys) standing) ≡ option_or (pick b (Some n) (first_standing ns standing)) (first_standing ys standing)
      go true e = refl
      go false e = e

  pub first_of_three : (xs ys zs : List ℕ) → first_standing (xs ++ ys ++ zs) standing ≡ option_or (option_or (first_standing xs standing) (first_standing ys standing)) (first_standing zs standing)
  first_of_three xs ys zs = first_after (xs ++ ys) zs ∙ ap (λ (g : Option ℕ). option_or g (first_standing zs standing)) (first_after xs ys)

-- where nothing stands, nothing is granted
pub first_of_none : (xs : List ℕ) → first_standing xs 0 ≡ None
unfolding first_standing
first_of_none [] = refl
first_of_none (n ∷ ns) =
    let e : 0 / 2 ^ n % 2 ≡ 0 = rw (zero-div (2 ^ n)) in
    rw (e, first_of_none ns)

-- so a grant is the first of those that stand
pub granted_standing : (irq imr ipr : ℕ) → first_standing (priorities ipr) (standing_of irq imr) ≡ granted irq imr ipr
unfolding standing_of granted
granted_standing irq imr ipr = go (is_set 7 imr)
  where
    go : (b : Bool) → first_standing (priorities ipr) (pick b (bit_and irq imr) 0) ≡ pick b (first_standing (priorities ipr) (bit_and irq imr)) None
    go true = refl
    go false = first_of_none (priorities ipr)

-- 000 and 111 order nothing
pub unused : (n : ℕ) (a b c : List ℕ) → n < 8 → NoneOf n (6 ∷ 5 ∷ 4 ∷ 3 ∷ 2 ∷ 1 ∷ []) → ordered n a b c ≡ []
unfolding ordered
unused zero a b c h d = refl
unused (suc zero) a b c h d = absurd (d.0.0.0.0.0.1 refl)
unused (suc (suc zero)) a b c h d = absurd (d.0.0.0.0.1 refl)
unused (suc (suc (suc zero))) a b c h d = absurd (d.0.0.0.1 refl)
unused (suc (suc (suc (suc zero)))) a b c h d = absurd (d.0.0.1 refl)
unused (suc (suc (suc (suc (suc zero))))) a b c h d = absurd (d.0.1 refl)
unused (suc (suc (suc (suc (suc (suc zero)))))) a b c h d = absurd (d.1 refl)
unused (suc (suc (suc (suc (suc (suc (suc zero))))))) a b c h d = refl
unused (suc (suc (suc (suc (suc (suc (suc (suc n)))))))) a b c h d = absurd (omega arith)

-- what is granted is a request, 0 to 5
abbrev all_low : List ℕ → Bool
all_low [] = true
all_low (n ∷ ns) = ltb n 6 && all_low ns

-- nothing is no request
abbrev is_nothing : Option ℕ → Type 0
is_nothing None = Unit {0}
is_nothing (Some k) = ⊥

is : {x y : ℕ} → ◌≡◌ {A = Option ℕ} (Some x) (Some y) → x ≡ y
is d = cc

first_low : (ns : List ℕ) (standing n : ℕ) → T (all_low ns) → first_standing ns standing ≡ Some n → n < 6
unfolding first_standing
first_low [] standing n t e = absurd (subst (λ (g : Option ℕ). is_nothing g) e tt)
first_low (k ∷ ns) standing n t e = go (is_set k standing) e (λ d. first_low ns standing n (and_right (ltb k 6) (all_low ns) t) d)
  where
    go : (b : Bool) → pick b (Some k) (first_standing ns standing) ≡ Some n → (first_standing ns standing ≡ Some n → n < 6) → n < 6
    go true d rest = rw (← is d) (ltb→lt k 6 (and_left (ltb k 6) (all_low ns) t))
    go false d rest = rest d

priorities_low : (ipr : ℕ) → ipr < 256 → T (all_low (priorities ipr))
unfolding priorities ordered group_a group_b group_c
priorities_low ipr h = at (λ x. all_low (priorities x)) 256 tt ipr h

pub granted_low : (irq imr ipr n : ℕ) → ipr < 256 → granted irq imr ipr ≡ Some n → n < 6
unfolding granted
granted_low irq imr ipr n h e = go (is_set 7 imr) e
  where
    go : (b : Bool) → pick b (first_standing (priorities ipr) (bit_and irq imr)) None ≡ Some n → n < 6
    go true d = first_low (priorities ipr) (bit_and irq imr) n (priorities_low ipr h) d
    go false d = absurd (subst (λ (g : Option ℕ). is_nothing g) d tt)
