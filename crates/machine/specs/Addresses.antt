-- Operand addresses (01 "Memory and registers"; 004 3.2 and chapter 4).
use Rattle.std.specs.Prelude.{ℕ, ◌+◌, ◌*◌, ◌/◌, ◌%◌, eqb}
use Rattle.word.specs.Choose.{pick}
use Rattle.word.specs.Fields.{upper, lower, word_of, high_byte, low_byte}
use Rattle.machine.specs.Names.{RP}
use Rattle.machine.specs.State.{held}
use Rattle.machine.specs.Registers.{read_reg, write_reg}
use Rattle.machine.specs.declared.Machine.{Machine}
use Rattle.machine.specs.declared.Pins.{Pins}

-- r: "the 4-bit address is concatenated with the upper four bits of the Register Pointer" (004, 3.2)
unfoldable pub working_at : Machine → ℕ → ℕ
working_at m x = upper (held m RP) * 16 + x

-- R: "An operand byte Ex in a register, indirect-register or pair field means working register x of the group in RP."
unfoldable pub register_at : Machine → ℕ → ℕ
register_at m b = pick (eqb (upper b) 0x0E) (working_at m (lower b)) b

-- IR and Ir: "An address found inside a register is taken as it is." What serves as one is what the register reads.
unfoldable pub indirect_at : Pins → Machine → ℕ → ℕ
indirect_at p m b = read_reg p m (register_at m b)

unfoldable pub working_indirect_at : Pins → Machine → ℕ → ℕ
working_indirect_at p m x = read_reg p m (working_at m x)

-- X: "An indexed address is offset plus index register, modulo 256, with no Ex rule (HOUSE)."
unfoldable pub indexed_at : Pins → Machine → ℕ → ℕ → ℕ
indexed_at p m offset x = (offset + working_indirect_at p m x) % 256

-- "A pair address drops its lowest bit (HOUSE); the even register is the high byte." The address is a field's
-- (`register_at`, `working_at`), or one found in a register (DECW and INCW of IR).
abbrev pub even_of : ℕ → ℕ
even_of a = a / 2 * 2

unfoldable pub read_pair : Pins → Machine → ℕ → ℕ
read_pair p m a = word_of (read_reg p m (even_of a)) (read_reg p m (even_of a + 1))

unfoldable pub write_pair : Machine → ℕ → ℕ → Machine
write_pair m a w = write_reg (write_reg m (even_of a) (high_byte w)) (even_of a + 1) (low_byte w)
