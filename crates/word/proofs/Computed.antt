-- Choices, and computed tests: that a rule holds at every number below a bound is one test, which the checker computes; a law turns the
-- passed test into the rule at a number.
use Rattle.std.proofs.Common.{◌≡◌, ℕ, zero, suc, ◌<◌, ◌≤◌, Bool, true, false, not, ◌&&◌, ◌||◌, T, eqb, ltb, List, [], ◌∷◌, refl, not-suc-le-zero, arith, eqb→eq, le-ltb}
use native.Mathlib.Decide.{dec_lt}
use Rattle.word.specs.Choose.{pick}

-- what holds of both choices, each under its test's outcome, holds of the choice
pub by_test : {A : Type 0} (P : A → Type 0) (b : Bool) {x y : A} → (b ≡ true → P x) → (b ≡ false → P y) → P (pick b x y)
by_test P true f g = f refl
by_test P false f g = g refl

pub and_left : (a b : Bool) → T (a && b) → T a
and_left true b t = tt
and_left false b t = t

pub and_right : (a b : Bool) → T (a && b) → T b
and_right true b t = t
and_right false b t = absurd t

-- a test that passes under a condition, where the condition holds
pub under : (a b : Bool) → T (not a || b) → a ≡ true → T b
under a b t e = rw e at t

-- a number below n + 1 is n or below n
top_or_below : (P : ℕ → Type 0) (n k : ℕ) → k < suc n → P n → (k < n → P k) → P k
top_or_below P n k h top rest = go (dec_lt k n)
  where
    go : Dec (k < n) → P k
    go (yes l) = rest l
    go (no d) = let e : k ≡ n = omega arith in rw e top

-- f passes at every number below n
abbrev pub below : (ℕ → Bool) → ℕ → Bool
below f zero = true
below f (suc n) = f n && below f n

pub at : (f : ℕ → Bool) (n : ℕ) → T (below f n) → (k : ℕ) → k < n → T (f k)
at f zero t k h = absurd (not-suc-le-zero h)
at f (suc n) t k h =
    top_or_below (λ x. T (f x)) n k h (and_left (f n) (below f n) t) (λ l. at f n (and_right (f n) (below f n) t) k l)

-- the numbers below n at which f fails
abbrev pub fails : (ℕ → Bool) → ℕ → List ℕ
fails f zero = []
fails f (suc n) = pick (f n) (fails f n) (n ∷ fails f n)

-- k is none of these. (The shape of what is known in the last arm of a `match` on numbers.)
abbrev pub NoneOf : ℕ → List ℕ → Type 0
NoneOf k [] = Unit {0}
NoneOf k (x ∷ xs) = NoneOf k xs × (k ≡ x → ⊥)

none_here : (b : Bool) (k : ℕ) (l : List ℕ) → NoneOf k (pick b l (k ∷ l)) → T b
none_here true k l d = tt
none_here false k l d = d.1 refl

none_later : (b : Bool) (k n : ℕ) (l : List ℕ) → NoneOf k (pick b l (n ∷ l)) → NoneOf k l
none_later true k n l d = d
none_later false k n l d = d.0

-- f passes at a number below n that is none of those at which it fails: the facts at hand refute each of these
pub else_passes : (f : ℕ → Bool) (n k : ℕ) → k < n → NoneOf k (fails f n) → T (f k)
else_passes f zero k h d = absurd (not-suc-le-zero h)
else_passes f (suc n) k h d =
    top_or_below (λ x. NoneOf x (fails f (suc n)) → T (f x)) n k h
    (λ e. none_here (f n) n (fails f n) e)
    (λ l e. else_passes f n k l (none_later (f n) k n (fails f n) e))
    d

-- a number from i to n that is none of i to n - 1
pub last : (i n k : ℕ) → i ≤ k → k < suc n → NoneOf k (fails (λ x. ltb x i || eqb x n) (suc n)) → k ≡ n
last i n k h l d =
    eqb→eq k n (rw (le-ltb k i h) at (else_passes (λ x. ltb x i || eqb x n) (suc n) k l d))

-- the values of f below n
abbrev pub made : {A : Type 0} → (ℕ → A) → ℕ → List A
made f zero = []
made f (suc n) = f n ∷ made f n

head_is : {A : Type 0} {x y : A} {l m : List A} → x ∷ l ≡ y ∷ m → x ≡ y
head_is e = cc

tail_is : {A : Type 0} {x y : A} {l m : List A} → x ∷ l ≡ y ∷ m → l ≡ m
tail_is e = cc

-- two functions whose values are the same list, which the checker computes, agree at each number below n
pub agree : {A : Type 0} (f g : ℕ → A) (n : ℕ) → made f n ≡ made g n → (k : ℕ) → k < n → f k ≡ g k
agree f g zero e k h = absurd (not-suc-le-zero h)
agree f g (suc n) e k h = top_or_below (λ x. f x ≡ g x) n k h (head_is e) (λ l. agree f g n (tail_is e) k l)

-- the same of two numbers, and of three
pub agree2 : {A : Type 0} (f g : ℕ → ℕ → A) (m n : ℕ) → made (λ j. made (f j) n) m ≡ made (λ j. made (g j) n) m → (j k : ℕ) → j < m → k < n
    → f j k ≡ g j k
agree2 f g m n e j k h l = agree (f j) (g j) n (agree (λ j. made (f j) n) (λ j. made (g j) n) m e j h) k l

pub agree3 : {A : Type 0} (f g : ℕ → ℕ → ℕ → A) (l m n : ℕ)
    → made (λ i. made (λ j. made (f i j) n) m) l ≡ made (λ i. made (λ j. made (g i j) n) m) l → (i j k : ℕ) → i < l → j < m → k < n
    → f i j k ≡ g i j k
agree3 f g l m n e i j k a b c =
    agree2 (f i) (g i) m n (agree (λ i. made (λ j. made (f i j) n) m) (λ i. made (λ j. made (g i j) n) m) l e i a) j k b c
