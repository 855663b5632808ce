use Rattle.machine.specs.Ports.{pins_of}
use Rattle.machine.proofs.Choices.{last_port}
use Rattle.machine.proofs.ports.pins_of.Goals as goal

pub returns-in-0 : goal.returns-in-0
unfolding pins_of
returns-in-0 c = rw c.in-0.is

pub returns-in-1 : goal.returns-in-1
unfolding pins_of
returns-in-1 c = rw c.in-1.is

pub returns-in-2 : goal.returns-in-2
unfolding pins_of
returns-in-2 c = rw c.in-2.is

pub returns-in_default : goal.returns-in_default
unfolding pins_of
returns-in_default c = last_port _ _ _ _ _ c.in_default.in_default-own.rest.0.0.1 c.in_default.in_default-own.rest.0.1 c.in_default.in_default-own.rest.1
