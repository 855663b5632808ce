use Rattle.interrupts.proofs.Latches.{edges_legal_moving}
use Rattle.interrupts.proofs.edges.moved.Goals as goal

pub edge-requires : goal.edge-requires
edge-requires c =
    rw (c.started_by-latched.ensures, c.latched_by-latched.ensures, c.moving_of-latched.ensures) (edges_legal_moving _ _ _ c.requires.moving)
