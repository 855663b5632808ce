use Rattle.std.proofs.Common.{◌∙◌, arith}
use Rattle.machine.proofs.ResetTable.{one_more}
use Rattle.machine.proofs.start.reset_places.Goals as goal

pub loop-a-preserved : goal.loop-a-preserved
loop-a-preserved c =
    rw (c.place.ensures) (one_more _ c.loop-a.a-index c.loop-a.regs _ (omega arith) ∙ c.loop-a.invariant)
