use Rattle.std.proofs.Common.{refl}
use Rattle.machine.specs.State.{placed_in}
use Rattle.machine.proofs.file.place.Goals as goal

pub returns : goal.returns
unfolding placed_in
returns c = refl
