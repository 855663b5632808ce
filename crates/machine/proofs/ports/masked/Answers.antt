use mathlib.Core.Path.{refl}
use Rattle.machine.specs.Ports.{masked}
use Rattle.machine.proofs.ports.masked.Goals as goal

pub returns : goal.returns
unfolding masked
returns c = refl
