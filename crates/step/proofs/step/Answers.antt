use Rattle.std.proofs.Common.{rules, ap, sym, ◌∙◌, List, ℕ, arith}
use Rattle.std.proofs.lemmas.Result.{err_from_is_err_and}
use Rattle.machine.proofs.Legal.{LegalPins}
use Rattle.deeds.proofs.Fits.{AllRead}
use Rattle.step.specs.Step.{Progress}
use Rattle.step.specs.Run.{nothing_done}
use Rattle.numbers.proofs.Refused.{number_some}
use Rattle.step.proofs.Acts.{read_any}
use Rattle.step.proofs.Turns.{one_run}
use Rattle.step.proofs.Theorems.{refused_step}
use Rattle.step.proofs.step.Goals as goal
use Rattle.step.proofs.step.Goals.{After-slice_known-1}

memory_read : (s : After-slice_known-1) → AllRead s.args.mem.now
memory_read s = read_any s.args.mem.now (λ i. omega (arith, s.type_inv.mem i))

pub run-one-requires : goal.run-one-requires
run-one-requires c = c.requires

-- refused, the step did nothing
pub returns-in_err-one : goal.returns-in_err-one
returns-in_err-one c =
    let a = c.args in
    let p = err_from_is_err_and c.from_residual.result c.from_residual.ensures.1 in
    let stepped = (rw c.in_err-one.was at c.run-one.ensures) ∙ one_run a.pins a.image.now a.mem.now a.m.now in
    let image_read = read_any a.image.now (λ i. omega (arith, c.type_inv.image i)) in
    let memory_read = memory_read (goal.at.returns-in_err-one c).After-slice_known-1 in
    let nothing =
    refused_step a.pins a.image.now (search rules) image_read a.mem.now a.m.now c.requires memory_read
    (λ z. number_some c.in_err-one.field-0.0 (ap (λ (y : Progress). y.refusal) stepped ∙ z)) in
    rw (p.1, p.2) (ap (λ (y : Progress). nothing_done y.refusal y.machine y.memory) (stepped ∙ nothing) ∙ sym nothing)

pub returns : goal.returns
returns c = (rw c.in_ok-one.was at c.run-one.ensures) ∙ one_run c.args.pins c.args.image.now c.args.mem.now c.args.m.now
