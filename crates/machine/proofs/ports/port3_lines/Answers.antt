use mathlib.Core.Path.{refl}
use Rattle.machine.specs.Ports.{port3_directions}
use Rattle.machine.proofs.ports.port3_lines.Goals as goal

pub returns : goal.returns
unfolding port3_directions
returns c = refl
