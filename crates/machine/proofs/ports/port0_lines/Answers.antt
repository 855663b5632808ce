use Rattle.machine.specs.Ports.{port0_directions}
use Rattle.machine.proofs.ports.port0_lines.Goals as goal

pub returns : goal.returns
unfolding port0_directions
returns c = rw (c.bits_if-low_address.ensures.is, c.bits_if-high_address.ensures.is, c.bits_if-low_inputs.ensures.is, c.bits_if-high_inputs.ensures.is)
