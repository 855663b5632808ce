use Rattle.machine.specs.Ports.{directions_of}
use Rattle.machine.proofs.Choices.{last_port}
use Rattle.machine.proofs.ports.directions_of.Goals as goal

pub returns-in-0 : goal.returns-in-0
unfolding directions_of
returns-in-0 c = rw (c.port0_lines.ensures, c.in-0.is)

pub returns-in-1 : goal.returns-in-1
unfolding directions_of
returns-in-1 c = rw (c.port1_lines.ensures, c.in-1.is)

pub returns-in-2 : goal.returns-in-2
unfolding directions_of
returns-in-2 c = rw (c.port2_lines.ensures, c.in-2.is)

pub returns-in_default : goal.returns-in_default
unfolding directions_of
returns-in_default c = rw c.port3_lines.ensures (last_port _ _ _ _ _ c.in_default.in_default-own.rest.0.0.1 c.in_default.in_default-own.rest.0.1 c.in_default.in_default-own.rest.1)
