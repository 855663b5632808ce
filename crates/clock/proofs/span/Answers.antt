use Rattle.std.proofs.Common.{sym}
use Rattle.std.proofs.lemmas.Option.{MatchOption-at_some}
use Rattle.machine.specs.Names.{TMR}
use Rattle.machine.specs.Clock.{moving_of, counts_at}
use Rattle.machine.proofs.Legal.{setting_of_lem}
use Rattle.machine.proofs.Lens.{span_few}
use Rattle.clock.proofs.span.Goals as goal

pub returns-in-Some : goal.returns-in-Some
unfolding counts_at moving_of
returns-in-Some c =
    let few = rw (c.moving_of.ensures, c.control_of.ensures, c.in-Some.is) at c.few_cycles.ensures in
    sym
    (MatchOption-at_some _ _ c.in-Some.x (sym few)
    (span_few c.args.m.now c.requires.file.long (c.requires.file.bytes TMR) c.args.n (setting_of_lem c.requires) c.requires.moving))
