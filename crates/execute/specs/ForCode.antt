-- For the contracts of the code alone, which stores to data memory where the definitions say what is to be stored: nothing here has to be believed.
use Rattle.std.specs.Prelude.{ℕ, List, Result, Ok, Err, slice_index}
use Rattle.numbers.specs.Numbers.{number_of}
use Rattle.numbers.specs.declared.Refusal.{Refusal}
use Rattle.opcodes.specs.Map.{entry_of}
use Rattle.opcodes.specs.Instruction.{lengths}
use Rattle.machine.specs.State.{with_pc}
use Rattle.machine.specs.declared.Machine.{Machine}
use Rattle.machine.specs.declared.Pins.{Pins}
use Rattle.deeds.specs.declared.Code.{Code}
use Rattle.execute.specs.Execute.{Execution, memory_after, execute_as}

-- machine, data memory, 0 or a refusal's number, cycles
pub record Performed : Type 0 where
  pub machine : Machine
  pub memory : List ℕ
  pub refusal : ℕ
  pub cycles : ℕ

abbrev pub performed : Machine → List ℕ → ℕ → Performed
performed m mem cycles = record { machine = m; memory = mem; refusal = 0; cycles = cycles }

-- what is left where the code answers its cycles, or its refusal; then it has none
abbrev pub left_with : Machine → List ℕ → Result ℕ Refusal → Performed
left_with m mem (Ok cycles) = performed m mem cycles
left_with m mem (Err e) = record { machine = m; memory = mem; refusal = number_of e; cycles = 0 }

-- what is left of an execution from machine m on
abbrev pub performed_by : Machine → List ℕ → Execution → Performed
performed_by m mem x = record { machine = x.machine; memory = memory_after m mem x; refusal = x.refusal; cycles = x.cycles }

-- the length of the instructions in a column, D4 aside
abbrev pub column_length : ℕ → ℕ
column_length lo = slice_index lengths lo

-- the instruction i at pc, with the machine n already at the next one
unfoldable pub instruction_at : Pins → List ℕ → List ℕ → Machine → ℕ → Code → Performed
instruction_at p image mem n pc i = performed_by n mem (execute_as p image mem (with_pc n pc) (entry_of i.op) i)
