-- For the contracts of the code alone, which goes by the opcode's column where the definitions go by its kind: nothing here has to be believed.
use Rattle.std.specs.Prelude.{List, [], ◌∷◌, ◌≡◌, ℕ, ◌≤◌, ◌<◌, get_or}
use Rattle.word.specs.Fields.{lower}
use Rattle.word.specs.Words.{plus}
use Rattle.opcodes.specs.ForCode.{two_cost}
use Rattle.opcodes.specs.declared.One.TheVariants.{Work, Reg, Ind}
use Rattle.opcodes.specs.declared.Two.{Two}
use Rattle.opcodes.specs.declared.Two.TheVariants.{WorkWork, WorkInd, RegReg, RegInd, RegImm, IndImm, WorkReg, RegWork, WorkImm}
use Rattle.machine.specs.declared.Machine.{Machine}
use Rattle.machine.specs.declared.Pins.{Pins}
use Rattle.deeds.specs.Modes.{one_at, operands_of}
use Rattle.deeds.specs.declared.Code.{Code}
use Rattle.execute.specs.ForCode.{column_length}
use Rattle.operands.specs.declared.Operands.{Operands}

-- two operands with the cycles of their modes
abbrev pub two_in : Pins → Machine → Code → Two → Operands
two_in p n i w = record { dst = (operands_of p n w i).dst; src = (operands_of p n w i).src; cycles = two_cost w }

-- column F, which has none
abbrev pub no_operands : Operands
no_operands = record { dst = 0; src = 0; cycles = 6 }

-- what each of the other fifteen columns says
abbrev pub columns : Pins → Machine → Code → List Operands
columns p n i =
    record { dst = one_at p n Reg i; src = 0; cycles = 6 }
    ∷ record { dst = one_at p n Ind i; src = 0; cycles = 6 }
    ∷ two_in p n i WorkWork
    ∷ two_in p n i WorkInd
    ∷ two_in p n i RegReg
    ∷ two_in p n i RegInd
    ∷ two_in p n i RegImm
    ∷ two_in p n i IndImm
    ∷ two_in p n i WorkReg
    ∷ two_in p n i RegWork
    ∷ record { dst = one_at p n Work i; src = i.first; cycles = 12 }
    ∷ record { dst = 0; src = i.first; cycles = 12 }
    ∷ two_in p n i WorkImm
    ∷ record { dst = 0; src = 0; cycles = 12 }
    ∷ record { dst = one_at p n Work i; src = 0; cycles = 6 }
    ∷ []

unfoldable pub column_at : Pins → Machine → Code → Operands
column_at p n i = get_or (columns p n i) (lower i.op) no_operands

-- an instruction of the columns from lo to before hi, with what its column says; the machine n stands at the next instruction
pub record At (lo hi : ℕ) (p : Pins) (n : Machine) (pc : ℕ) (i : Code) (o : Operands) : Type 0 where
  pub low : lo ≤ lower i.op
  pub high : lower i.op < hi
  pub next : n.pc ≡ plus pc (column_length (lower i.op))
  pub is : o ≡ column_at p n i
