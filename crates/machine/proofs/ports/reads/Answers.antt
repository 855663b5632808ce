use Rattle.machine.specs.Ports.{port_reads}
use Rattle.machine.proofs.ports.reads.Goals as goal

pub returns : goal.returns
unfolding port_reads
returns c = rw (c.masked.ensures, c.masked-bits.ensures)
