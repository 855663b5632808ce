use Rattle.std.proofs.Common.{◌≡◌, ◌∙◌, refl, ap, arith}
use borrow.Author.Tests.{lt-ltb, le-ltb}
use Rattle.numbers.proofs.Refused.{number_some}
use Rattle.machine.specs.declared.Machine.{Machine}
use Rattle.step.specs.Step.{Progress}
use Rattle.step.specs.Run.{budget_refusal, run_of}
use Rattle.z8.specs.Calls.{left_by, run_call_of}
use Rattle.z8.proofs.Refusals.{is_refused, is_done, passed_with, admitted_next}
use Rattle.z8.proofs.Ways.{told, no_run}
use Rattle.z8.proofs.run_in.Goals as goal

pub returns-in_err-m : goal.returns-in_err-m
returns-in_err-m c =
    rw (passed_with _ _ _ c.from_residual.ensures.1 refl) (no_run _ _ _ _ c.in_err-m.ensures.value (number_some c.in_err-m.field-0.0) _)

pub returns-then-budget-gt-BUDGET_MOST : goal.returns-then-budget-gt-BUDGET_MOST
unfolding run_call_of
returns-then-budget-gt-BUDGET_MOST c =
    let over : budget_refusal c.args.budget ≡ 4 = rw (lt-ltb 1000000 c.args.budget c.if-budget-gt-BUDGET_MOST.true) in
    is_refused _ _ _ 4 (admitted_next _ _ _ _ c.in_ok-m.ensures.value _ refl ∙ over) (λ z. omega arith)

pub returns : goal.returns
unfolding run_call_of
returns c =
    let known = c.in_ok-m.ensures in
    let went = c.run-ran.ensures ∙ ap (λ (m : Machine). run_of c.args.pins c.args.image.now c.args.memory.now m c.args.budget) known.machine.0 in
    let within : budget_refusal c.args.budget ≡ 0 = rw (le-ltb 1000000 c.args.budget c.if-budget-gt-BUDGET_MOST.false) in
    told _ _ _ (ap (λ (x : Progress). x.refusal) went) (c.leave.ensures _ ∙ ap left_by went) ∙ is_done _ _ _ (admitted_next _ _ _ _ known.value _ refl ∙ within)
