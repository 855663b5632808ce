use mathlib.Core.Path.{refl}
use Rattle.machine.specs.Ports.{port2_directions}
use Rattle.machine.proofs.ports.port2_lines.Goals as goal

pub returns : goal.returns
unfolding port2_directions
returns c = refl
