use Rattle.std.proofs.Common.{◌≡◌, drop}
use Rattle.machine.specs.Start.{placed_all, reset_places}
use Rattle.machine.proofs.ResetTable.{places_of}
use Rattle.machine.proofs.start.reset_places.Given as goal

-- what is still to be placed leads to what all the places lead to
abbrev pub invariant-loop-a : goal.invariant-loop-a
invariant-loop-a l = placed_all l.regs (places_of (drop l.a-index l.a-items)) ≡ placed_all l.initial.regs reset_places
