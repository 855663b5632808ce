-- For the contracts of the code alone: nothing here has to be believed.
use Rattle.std.specs.Prelude.{ℕ, zero, suc, ◌+◌, ◌*◌, ◌^◌, Bool, bit_xor}
use Rattle.word.specs.Choose.{bits_if}
use Rattle.word.specs.Fields.{bit_of}
use Rattle.alu.specs.Conditions.{holds_of}

-- bit 4 of a, b and r by exclusive or: H, where r is their sum or their difference (proved: `half_of_sum`, `half_of_difference`)
unfoldable pub half_carry : ℕ → ℕ → ℕ → ℕ
half_carry a b r = bit_xor (bit_xor (bit_of 4 a) (bit_of 4 b)) (bit_of 4 r)

-- the numbers below n at which the test holds, a bit for each
abbrev pub bits_where : (ℕ → Bool) → ℕ → ℕ
bits_where test zero = 0
bits_where test (suc n) = bits_if (test n) (2 ^ n) + bits_where test n

-- the condition codes that hold where the upper four bits of FLAGS are these
unfoldable pub holding_of : ℕ → ℕ
holding_of czsv = bits_where (λ cc. holds_of cc (czsv * 16)) 16
