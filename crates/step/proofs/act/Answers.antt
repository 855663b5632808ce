use Rattle.std.proofs.Common.{rules, sym, ◌∙◌}
use Rattle.interrupts.specs.Grants.{grant_of}
use Rattle.interrupts.proofs.Orders.{granted_low}
use Rattle.step.specs.Step.{granted_or}
use Rattle.step.proofs.Acts.{entered_left}
use Rattle.step.proofs.act.Goals as goal

pub enter-requires : goal.enter-requires
enter-requires c = granted_low _ _ _ _ (search rules) (sym c.granted.ensures ∙ c.in-Some.is)

pub returns-in-None : goal.returns-in-None
unfolding granted_or grant_of
returns-in-None c =
    let grant_is = rw (c.held-ipr.ensures, c.held-imr.ensures, c.held-irq.ensures) at c.granted.ensures in
    rw (← grant_is, c.in-None.is) c.execute_here.ensures

pub returns-in-Some : goal.returns-in-Some
unfolding granted_or grant_of
returns-in-Some c =
    let grant_is = rw (c.held-ipr.ensures, c.held-imr.ensures, c.held-irq.ensures) at c.granted.ensures in
    rw (← grant_is, c.in-Some.is, c.from-cost.ensures) (entered_left c.args.pins _ _ _ _ _ c.enter.ensures)
