use mathlib.Core.Path.{◌≡◌}
use Prim.Native.Nat.{◌-◌}
use lib.ListN.{length}
use Rattle.std.proofs.Common.{Ok}
use Rattle.step.specs.ForCode.{stepped_in}
use Rattle.step.proofs.Turns.{SoFar}
use Rattle.step.proofs.steps.Given as goal

abbrev pub invariant-loop-cycles : goal.invariant-loop-cycles
invariant-loop-cycles l =
    let came = stepped_in l.m l.mem (Ok (record { cycles = l.cycles; ends0 = l.ends0; ends1 = l.ends1 })) in
    SoFar l.pins l.image l.fn.mem l.initial.m l.initial.ends1 l.budget came × (length l.mem ≡ length l.fn.mem)

abbrev pub decreases-loop-cycles : goal.decreases-loop-cycles
decreases-loop-cycles l = l.budget - l.cycles
