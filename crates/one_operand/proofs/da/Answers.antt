use Rattle.execute.specs.Doing.{done_of}
use Rattle.deeds.specs.Pages.{adjust_deed}
use Rattle.one_operand.proofs.da.Goals as goal

pub returns-in-Some : goal.returns-in-Some
unfolding done_of adjust_deed
returns-in-Some c =
    rw (c.store.ensures, ← c.read-was.ensures, ← c.flags.ensures, ← c.da.ensures, c.in-Some.known_told-1-own.given.1, c.in-Some.is)

pub returns-in_default : goal.returns-in_default
unfolding done_of adjust_deed
returns-in_default c = rw (← c.read-was.ensures, ← c.flags.ensures, ← c.da.ensures, c.in_default.is)
