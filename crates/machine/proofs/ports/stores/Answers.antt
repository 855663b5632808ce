use Rattle.machine.specs.Ports.{port_stores}
use Rattle.machine.proofs.ports.stores.Goals as goal

pub returns : goal.returns
unfolding port_stores
returns c = c.masked.ensures
