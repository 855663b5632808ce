-- For the contracts of the code alone, which returns in parts what the definitions say whole: nothing here has to be believed.
use Rattle.std.specs.Prelude.{Bool, false, not, List, ℕ, Option, Some, None, Result, Ok, Err}
use Rattle.numbers.specs.Numbers.{number_of, answered}
use Rattle.numbers.specs.declared.Refusal.{Refusal}
use Rattle.opcodes.specs.Instruction.{defined}
use Rattle.opcodes.specs.Map.{entry_of}
use Rattle.opcodes.specs.declared.Kind.{Kind}
use Rattle.machine.specs.Memory.{program_byte}
use Rattle.machine.specs.declared.Machine.{Machine}
use Rattle.machine.specs.declared.Pins.{Pins}
use Rattle.interrupts.specs.Edges.{compared_of}
use Rattle.interrupts.specs.Grants.{grant_of}
use Rattle.step.specs.Run.{nothing_done}
use Rattle.step.specs.declared.Tally.{Tally}
use Rattle.step.specs.declared.Progress as coded
use Rattle.step.specs.Step.{Progress}

-- what a step comes to beside a lent machine and data memory, and a run
abbrev pub stepped_in : Machine → List ℕ → Result Tally Refusal → Progress
stepped_in m mem (Ok t) = record { refusal = 0; cycles = t.cycles; ends0 = t.ends0; ends1 = t.ends1; machine = m; memory = mem }
stepped_in m mem (Err e) = nothing_done (number_of e) m mem

abbrev pub run_in : Machine → List ℕ → coded.Progress → Progress
run_in m mem r =
    record {
      refusal = answered r.ended;
      cycles = r.done.cycles;
      ends0 = r.done.ends0;
      ends1 = r.done.ends1;
      machine = m;
      memory = mem;
    }

-- whether a step is refused, which is known before anything is stored
abbrev pub refused_where : Option ℕ → Option Kind → Bool
refused_where None e = not (defined e)
refused_where (Some n) e = false

unfoldable pub is_refused_of : Pins → List ℕ → Machine → Bool
is_refused_of p image m = refused_where (grant_of (compared_of m p.port3).machine) (entry_of (program_byte image m.pc))
