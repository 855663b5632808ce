use mathlib.Core.Path.{sym, ◌∙◌, subst, ◌≡◌}
use lib.Dec.{T}
use borrow.Author.Tests.{not-true, not-false}
use Rattle.machine.specs.declared.Machine.{Machine}
use Rattle.interrupts.proofs.Orders.{granted_standing}
use Rattle.interrupts.specs.Edges.{compared_of}
use Rattle.interrupts.specs.Grants.{grant_of}
use Rattle.step.specs.ForCode.{is_refused_of}
use Rattle.step.proofs.Acts.{granted_is}
use Rattle.step.proofs.Theorems.{told_refused, told_taken, granted_taken}
use Rattle.step.proofs.is_refused.Goals as goal
use Rattle.step.proofs.is_refused.Goals.{After-highest}

-- what is granted when the pins are compared
module _ (s : After-highest) where
  abbrev given : Machine
  given = s.args.m.now

  grant_is : grant_of (compared_of given s.args.pins.port3).machine ≡ s.highest.result
  grant_is =
      let standing = rw (s.held-2.ensures, s.standing-standing.ensures, s.held.ensures, s.requests-irq.ensures) at s.highest.ensures in
      sym (granted_is s.args.pins given s.requires) ∙ sym (rw granted_standing at standing)

pub returns-in-None : goal.returns-in-None
unfolding is_refused_of
returns-in-None c =
    let pins = c.args.pins in
    let image = c.args.image.now in
    let m = given (goal.at.returns-in-None c).After-highest in
    let none = grant_is (goal.at.returns-in-None c).After-highest ∙ c.in-None.is in
    let known = rw c.program.ensures at c.is_defined.ensures in record { value = rw (none, known); refused = λ t mem. told_refused pins image mem m c.requires none (sym known ∙ not-true _ t); taken = λ t mem. told_taken pins image mem m c.requires none (sym known ∙ not-false _ t) }

pub returns-in-Some : goal.returns-in-Some
unfolding is_refused_of
returns-in-Some c =
    let pins = c.args.pins in
    let image = c.args.image.now in
    let m = given (goal.at.returns-in-Some c).After-highest in
    let some = grant_is (goal.at.returns-in-Some c).After-highest ∙ c.in-Some.is in record { value = rw (some); refused = λ t mem. absurd (subst T (sym t) tt); taken = λ t mem. granted_taken pins image mem m c.requires some }
