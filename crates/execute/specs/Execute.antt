-- One instruction, from the program counter on (01 "Instructions").
use Rattle.std.specs.Prelude.{ℕ, List, Option, Some, None}
use Rattle.word.specs.Words.{plus}
use Rattle.opcodes.specs.Map.{entry_of}
use Rattle.numbers.specs.Numbers.{refused_opcode}
use Rattle.opcodes.specs.Instruction.{length_of}
use Rattle.opcodes.specs.Cycles.{cycles_of}
use Rattle.opcodes.specs.declared.Kind.{Kind}
use Rattle.machine.specs.State.{with_pc}
use Rattle.machine.specs.Memory.{program_three, stored_in}
use Rattle.machine.specs.declared.Machine.{Machine}
use Rattle.machine.specs.declared.Pins.{Pins}
use Rattle.machine.specs.Memory.{Stores}
use Rattle.deeds.specs.Pages.{deed_of, outcome_of}
use Rattle.deeds.specs.declared.Code.{Code}
use Rattle.deeds.specs.declared.Deed.{Deed}
use Rattle.execute.specs.Doing.{done_of}

-- what an instruction comes to: 0 or a refusal's number, its cycles, what is to be stored in data memory, the machine
pub record Execution : Type 0 where
  pub refusal : ℕ
  pub cycles : ℕ
  pub stores : Stores
  pub machine : Machine

-- and data memory after it
abbrev pub memory_after : Machine → List ℕ → Execution → List ℕ
memory_after m mem x = stored_in m.kind mem x.stores

-- the bytes at the program counter, which "is modulo 65,536"
unfoldable pub code_at : List ℕ → ℕ → Code
code_at image pc =
    let b = program_three image pc in
    record { op = b.first; first = b.second; second = b.third }

-- "opcode undefined": 5, "nothing changed"
abbrev pub refused_of : Machine → Execution
refused_of m = record { refusal = refused_opcode; cycles = 0; stores = None; machine = m }

-- the machine at the next instruction
abbrev pub next_of : Machine → Code → Machine
next_of m i = with_pc m (plus m.pc (length_of i.op))

-- a deed of an instruction: its cycles by the map, and what it does
abbrev pub costing : ℕ → Pins → Machine → Deed → Execution
costing op p m d =
    record { refusal = 0; cycles = cycles_of op (outcome_of m d); stores = (done_of p m d).stores; machine = (done_of p m d).machine }

-- an instruction of this kind
unfoldable pub perform_of : Pins → List ℕ → List ℕ → Machine → Kind → Code → Execution
perform_of p image mem m k i = costing i.op p (next_of m i) (deed_of p image mem (next_of m i) k i)

-- a blank area of the map is refused, an instruction performed
unfoldable pub execute_as : Pins → List ℕ → List ℕ → Machine → Option Kind → Code → Execution
execute_as p image mem m None i = refused_of m
execute_as p image mem m (Some k) i = perform_of p image mem m k i

-- the instruction at the program counter
unfoldable pub execute_of : Pins → List ℕ → List ℕ → Machine → Execution
execute_of p image mem m =
    let i = code_at image m.pc in
    execute_as p image mem m (entry_of i.op) i
