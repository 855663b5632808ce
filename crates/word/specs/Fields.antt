-- Fields of a byte, and a word's two bytes.
use Rattle.std.specs.Prelude.{ℕ, ◌+◌, ◌*◌, ◌/◌, ◌%◌, ◌^◌, Bool, ◌==◌}

-- bit n of v, counted from 0
abbrev pub bit_of : ℕ → ℕ → ℕ
bit_of n v = v / 2 ^ n % 2

-- bit n of v is set
abbrev pub is_set : ℕ → ℕ → Bool
is_set n v = bit_of n v == 1

-- the upper four bits of a byte, and the lower four
abbrev pub upper : ℕ → ℕ
upper v = v / 16

abbrev pub lower : ℕ → ℕ
lower v = v % 16

-- the word of two bytes, high byte first
abbrev pub word_of : ℕ → ℕ → ℕ
word_of hi lo = hi * 256 + lo

abbrev pub high_byte : ℕ → ℕ
high_byte w = w / 256

abbrev pub low_byte : ℕ → ℕ
low_byte w = w % 256
