-- Operands: their addresses and values, by the address modes of chapter 4 and the boxes of chapter 5. All is read from the machine as it
-- stands before anything is written: "Operand addresses and source values are taken before anything is written, with RP as it stood" (01).
use Rattle.std.specs.Prelude.{ℕ}
use Rattle.word.specs.Fields.{upper, lower, word_of}
use Rattle.opcodes.specs.declared.One.{One}
use Rattle.opcodes.specs.declared.One.TheVariants.{Work, Reg, Ind}
use Rattle.opcodes.specs.declared.Two.{Two}
use Rattle.opcodes.specs.declared.Two.TheVariants.{WorkWork, WorkInd, RegReg, RegInd, RegImm, IndImm, WorkImm, WorkReg, RegWork, WorkIndexed, IndexedWork, IndWork, IndReg}
use Rattle.opcodes.specs.declared.Target.{Target}
use Rattle.opcodes.specs.declared.Target.TheVariants.{Direct, Pair}
use Rattle.machine.specs.Names.{FLAGS}
use Rattle.machine.specs.State.{held}
use Rattle.machine.specs.Registers.{read_reg}
use Rattle.machine.specs.Addresses.{working_at, register_at, indirect_at, working_indirect_at, indexed_at, read_pair}
use Rattle.machine.specs.declared.Machine.{Machine}
use Rattle.machine.specs.declared.Pins.{Pins}
use Rattle.deeds.specs.declared.Code.{Code}
use Rattle.deeds.specs.declared.Operands.{Operands}

-- FLAGS, as they stand
abbrev pub flags_of : Machine → ℕ
flags_of m = held m FLAGS

-- the working register that the upper nibble of a byte names, and the one that the lower names
abbrev pub upper_at : Machine → ℕ → ℕ
upper_at m b = working_at m (upper b)

abbrev pub lower_at : Machine → ℕ → ℕ
lower_at m b = working_at m (lower b)

-- one operand's address: r, which stands in the opcode; R (a pair's: RR); IR
unfoldable pub one_at : Pins → Machine → One → Code → ℕ
one_at p m Work i = upper_at m i.op
one_at p m Reg i = register_at m i.first
one_at p m Ind i = indirect_at p m i.first

-- a destination's address, and as source what the register at address a reads
unfoldable pub from_register : Pins → Machine → ℕ → ℕ → Operands
from_register p m dst a = record { dst = dst; src = read_reg p m a }

-- a destination's address, with an immediate source
abbrev pub from_byte : ℕ → ℕ → Operands
from_byte dst v = record { dst = dst; src = v }

-- two operands, destination and source. "Operand order is that of chapter 5's boxes": two nibbles of one byte are destination and source
-- (but with an index they are the register and the index, and the offset follows); of two bytes the source is first, unless it is immediate.
unfoldable pub operands_of : Pins → Machine → Two → Code → Operands
operands_of p m WorkWork i = from_register p m (upper_at m i.first) (lower_at m i.first)
operands_of p m WorkInd i = from_register p m (upper_at m i.first) (working_indirect_at p m (lower i.first))
operands_of p m RegReg i = from_register p m (register_at m i.second) (register_at m i.first)
operands_of p m RegInd i = from_register p m (register_at m i.second) (indirect_at p m i.first)
operands_of p m RegImm i = from_byte (register_at m i.first) i.second
operands_of p m IndImm i = from_byte (indirect_at p m i.first) i.second
operands_of p m WorkImm i = from_byte (upper_at m i.op) i.first
operands_of p m WorkReg i = from_register p m (upper_at m i.op) (register_at m i.first)
operands_of p m RegWork i = from_register p m (register_at m i.first) (upper_at m i.op)
operands_of p m WorkIndexed i = from_register p m (upper_at m i.first) (indexed_at p m i.second (lower i.first))
operands_of p m IndexedWork i = from_register p m (indexed_at p m i.second (lower i.first)) (upper_at m i.first)
operands_of p m IndWork i = from_register p m (working_indirect_at p m (upper i.first)) (lower_at m i.first)
operands_of p m IndReg i = from_register p m (indirect_at p m i.second) (register_at m i.first)

-- where a jump or a call goes: DA, the high byte first (see DECISIONS); or IRR, what the pair reads
unfoldable pub target_of : Pins → Machine → Target → Code → ℕ
target_of p m Direct i = word_of i.first i.second
target_of p m Pair i = read_pair p m (register_at m i.first)
