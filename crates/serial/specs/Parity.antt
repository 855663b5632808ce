-- Odd parity, sent and received. "The Z8 hardware supports odd parity only" (004, 12.3.4).
use Rattle.std.specs.Prelude.{Bool, not, ℕ, ◌+◌, ◌%◌, eqb}
use Rattle.word.specs.Choose.{pick, bits_if}
use Rattle.word.specs.Fields.{bit_of}

-- a byte with an odd number of ones
unfoldable pub is_odd : ℕ → Bool
is_odd v = eqb ((bit_of 0 v + bit_of 1 v + bit_of 2 v + bit_of 3 v + bit_of 4 v + bit_of 5 v + bit_of 6 v + bit_of 7 v) % 2) 1

-- "If parity is on, bit D_7 of the data [..] will be replaced", by 1 or by 0
abbrev pub with_bit7 : Bool → Bool → ℕ → ℕ
with_bit7 parity set v = pick parity (v % 128 + bits_if set 128) v

-- "by an odd parity bit" (12.4.2): with it the eight bits have an odd number of ones
unfoldable pub sent_bits : Bool → ℕ → ℕ
sent_bits parity v = with_bit7 parity (not (is_odd (v % 128))) v

-- "by a Parity Error flag. A parity error sets D_7 to 1; otherwise, D_7 is set to 0" (12.3.4). An error is eight bits, as they came, with an
-- even number of ones.
unfoldable pub received_byte : Bool → ℕ → ℕ
received_byte parity v = with_bit7 parity (not (is_odd v)) v
