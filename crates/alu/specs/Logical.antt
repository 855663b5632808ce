-- AND, COM, OR, TCM, TM, XOR: Z and S by the result, V reset, C, H and D unaffected.
use Rattle.std.specs.Prelude.{ℕ, ◌-◌, bit_and, bit_or, bit_xor}
use Rattle.alu.specs.declared.Flags.{Flags}
use Rattle.alu.specs.declared.Outcome.{Outcome}
use Rattle.alu.specs.FlagByte.{page, unaffected, to, is_zero, sign8}

unfoldable pub logic_flags : ℕ → Flags
logic_flags r = page unaffected (to (is_zero r)) (to (sign8 r)) (to 0) unaffected unaffected

abbrev pub logic : ℕ → Outcome ℕ
logic r = record { value = r; flags = logic_flags r }

unfoldable pub and_of : ℕ → ℕ → Outcome ℕ
and_of a b = logic (bit_and a b)

unfoldable pub or_of : ℕ → ℕ → Outcome ℕ
or_of a b = logic (bit_or a b)

unfoldable pub xor_of : ℕ → ℕ → Outcome ℕ
xor_of a b = logic (bit_xor a b)

-- "all 1 bits are changed to 0, and vice-versa"
unfoldable pub com_of : ℕ → Outcome ℕ
com_of a = logic (255 - a)

-- dst AND src, stored nowhere
unfoldable pub tm_of : ℕ → ℕ → Flags
tm_of a b = logic_flags (bit_and a b)

-- (NOT dst) AND src, stored nowhere (5.5; the page is illegible)
unfoldable pub tcm_of : ℕ → ℕ → Flags
tcm_of a b = logic_flags (bit_and (255 - a) b)
