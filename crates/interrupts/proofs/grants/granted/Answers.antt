use Rattle.std.proofs.Common.{◌≡◌, sym, ◌∙◌, ap}
use Rattle.interrupts.specs.ForCode.{standing_of}
use Rattle.interrupts.specs.Grants.{priorities, first_standing}
use Rattle.interrupts.proofs.Orders.{first_of_none, granted_standing}
use Rattle.interrupts.proofs.grants.granted.Goals as goal

pub returns-then-standing-eq0 : goal.returns-then-standing-eq0
returns-then-standing-eq0 c =
    let none : standing_of c.args.irq c.args.imr ≡ 0 = sym c.standing-standing.ensures ∙ c.if-standing-eq0.true in
    sym (first_of_none (priorities c.args.ipr)) ∙ ap (first_standing (priorities c.args.ipr)) (sym none) ∙ granted_standing _ _ _
