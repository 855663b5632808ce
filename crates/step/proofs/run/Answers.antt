use Rattle.std.proofs.Common.{◌≡◌, true, false}
use lib.Dec.{ltb}
use borrow.Author.Tests.{lt-ltb, le-ltb}
use Rattle.numbers.specs.Numbers.{budget_most}
use Rattle.step.specs.Run.{run_of}
use Rattle.step.proofs.run.Goals as goal

pub returns-then-budget-gt-BUDGET_MOST : goal.returns-then-budget-gt-BUDGET_MOST
unfolding run_of
returns-then-budget-gt-BUDGET_MOST c = let over : ltb budget_most c.args.budget ≡ true = lt-ltb budget_most c.args.budget c.if-budget-gt-BUDGET_MOST.true in rw over

pub steps-requires : goal.steps-requires
steps-requires c = record { legal = c.requires; budget_le_budget_most = c.if-budget-gt-BUDGET_MOST.false }

pub returns : goal.returns
unfolding run_of
returns c =
    let within : ltb budget_most c.args.budget ≡ false = le-ltb budget_most c.args.budget c.if-budget-gt-BUDGET_MOST.false in
    rw within c.steps.ensures
