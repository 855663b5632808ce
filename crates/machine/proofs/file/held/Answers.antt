use Rattle.std.proofs.Common.{refl}
use Rattle.machine.specs.State.{held_in}
use Rattle.machine.proofs.file.held.Goals as goal

pub returns : goal.returns
unfolding held_in
returns c = refl
