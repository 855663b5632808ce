-- The instruction at the program counter, and how its refusal shows in its cycles.
use Rattle.std.specs.Prelude.{Option, Some, None}
use Rattle.std.proofs.Common.{◌≡◌, ℕ, ◌<◌, Bool, true, false, not, eqb, List, refl}
use Rattle.word.specs.Choose.{pick}
use Rattle.word.proofs.Computed.{agree}
use Rattle.opcodes.specs.Map.{entry_of, opcode_map}
use Rattle.opcodes.specs.Cycles.{cycles_of, cycle_map}
use Rattle.opcodes.specs.Instruction.{defined}
use Rattle.opcodes.specs.declared.Kind.{Kind}
use Rattle.machine.specs.State.{with_pc}
use Rattle.machine.specs.declared.Machine.{Machine}
use Rattle.machine.specs.declared.Pins.{Pins}
use Rattle.deeds.specs.Pages.{deed_of, outcome_of}
use Rattle.deeds.specs.declared.Code.{Code}
use Rattle.execute.specs.Execute.{code_at, next_of, perform_of, execute_as, execute_of}
use Rattle.execute.specs.ForCode.{instruction_at, performed_by}

pub here_is : (p : Pins) (image mem : List ℕ) (m : Machine) → instruction_at p image mem m m.pc (code_at image m.pc) ≡ performed_by m mem (execute_of p image mem m)
unfolding instruction_at execute_of with_pc
here_is p image mem m = refl

-- the map has cycles exactly where it has an instruction
some_cycles : (first : Bool) (op : ℕ) → op < 256 → eqb (cycles_of op first) 0 ≡ not (defined (entry_of op))
unfolding entry_of opcode_map cycles_of cycle_map
some_cycles true op h = agree (λ x. eqb (cycles_of x true) 0) (λ x. not (defined (entry_of x))) 256 refl op h
some_cycles false op h = agree (λ x. eqb (cycles_of x false) 0) (λ x. not (defined (entry_of x))) 256 refl op h

-- so 0 cycles are refusal 5
pub refusal_by_cycles : (p : Pins) (image mem : List ℕ) (m : Machine) (e : Option Kind) (i : Code) → e ≡ entry_of i.op → i.op < 256
    → (execute_as p image mem m e i).refusal ≡ pick (eqb (execute_as p image mem m e i).cycles 0) 5 0
unfolding execute_as perform_of
refusal_by_cycles p image mem m None i e h = refl
refusal_by_cycles p image mem m (Some k) i e h =
    rw (some_cycles (outcome_of (next_of m i) (deed_of p image mem (next_of m i) k i)) i.op h, ← e)
