use Rattle.machine.specs.Ports.{port1_directions}
use Rattle.machine.proofs.ports.port1_lines.Goals as goal

pub returns : goal.returns
unfolding port1_directions
returns c = rw (c.bits_if-address.ensures.is, c.bits_if-inputs.ensures.is)
