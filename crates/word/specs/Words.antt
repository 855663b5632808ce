-- Words modulo 65,536, and the signed displacement of an operand byte.
use Rattle.std.specs.Prelude.{ℕ, ◌+◌, ◌-◌, ◌%◌, ℤ, pos, negsuc, nat_lt}
use Rattle.word.specs.Choose.{pick}

-- w + n, modulo 65,536
abbrev pub plus : ℕ → ℕ → ℕ
plus w n = (w + n) % 65536

-- an operand byte as a displacement, "-128 to 127" (01), a "two's-complement signed displacement" (004, 4.6): below 80 (hexadecimal) itself, else
-- 256 less. `negsuc n` is -(n + 1).
unfoldable pub disp_of : ℕ → ℤ
disp_of b = pick (nat_lt b 128) (pos b) (negsuc (255 - b))

-- w + d, modulo 65,536
unfoldable pub moved_by : ℕ → ℤ → ℕ
moved_by w (pos n) = plus w n
moved_by w (negsuc n) = plus w (65535 - n)
