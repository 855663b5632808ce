-- Choosing by a test.
use Rattle.std.specs.Prelude.{ℕ, Bool, true, false}

-- the first where the test holds, else the second
abbrev pub pick : {A : Type 0} → Bool → A → A → A
pick true a b = a
pick false a b = b

-- 1 where the test holds, else 0
abbrev pub one_if : Bool → ℕ
one_if b = pick b 1 0

-- these bits where the test holds, else none
abbrev pub bits_if : Bool → ℕ → ℕ
bits_if test bits = pick test bits 0
