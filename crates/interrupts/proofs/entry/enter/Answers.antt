use Rattle.machine.specs.State.{with_pc}
use Rattle.interrupts.proofs.Entries.{entered_is}
use Rattle.interrupts.proofs.entry.enter.Goals as goal

pub returns : goal.returns
unfolding with_pc
returns c =
    rw (c.interrupts.ensures, c.place.ensures, c.cleared.ensures, c.held-irq.ensures, c.vector-m.ensures)
    (entered_is _ _ _ _ _ (rw (c.low_byte.ensures, c.high_byte.ensures, c.flags-flags.ensures) at c.push.ensures))
