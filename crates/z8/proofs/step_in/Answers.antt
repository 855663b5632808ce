use Rattle.std.proofs.Common.{rules, ◌∙◌, refl, sym, ap, arith}
use Rattle.numbers.specs.Numbers.{number_of}
use Rattle.numbers.proofs.Refused.{number_some}
use Rattle.machine.specs.declared.Machine.{Machine}
use Rattle.machine.proofs.Legal.{LegalPins}
use Rattle.step.specs.Step.{Progress, step_of}
use Rattle.step.proofs.Acts.{read_any}
use Rattle.z8.specs.Calls.{answer, Lent, left_by, step_call_of}
use Rattle.z8.proofs.Refusals.{is_refused, is_done, passed_with, admitted_next}
use Rattle.z8.proofs.Ways.{memory_stays, no_step}
use Rattle.z8.proofs.step_in.Goals as goal

pub returns-in_err-m : goal.returns-in_err-m
returns-in_err-m c =
    rw (passed_with _ _ _ c.from_residual.ensures.1 refl) (no_step _ _ _ _ c.in_err-m.ensures.value (number_some c.in_err-m.field-0.0))

pub returns-in_err-done : goal.returns-in_err-done
unfolding step_call_of
returns-in_err-done c =
    let known = c.in_ok-m.ensures in
    let e = c.in_err-done.field-0.0 in
    let went = c.in_err-done.ensures ∙ ap (λ (m : Machine). step_of c.args.pins c.args.image.now c.args.memory.now m) known.machine.0 in
    let image_read = read_any c.args.image.now (λ i. omega (arith, c.type_inv.image i)) in
    let memory_read = read_any c.args.memory.now (λ i. omega (arith, c.slice_known-2-1.given i)) in
    let legal_pins : LegalPins c.args.pins = search rules in
    let stays = memory_stays _ _ _ _ _ _ e known.machine.1 legal_pins image_read memory_read c.in_err-done.ensures in
    rw (passed_with _ _ _ c.from_residual-in_err-done.ensures.1 refl, stays)
    (is_refused _ _ _ (number_of e) (admitted_next _ _ _ _ known.value _ refl ∙ sym (ap (λ (x : Progress). x.refusal) went)) (number_some e))

pub returns : goal.returns
unfolding step_call_of
returns c =
    let known = c.in_ok-m.ensures in
    let went = c.in_ok-done.ensures ∙ ap (λ (m : Machine). step_of c.args.pins c.args.image.now c.args.memory.now m) known.machine.0 in
    ap (λ (x : Lent). answer 0 x) (c.leave.ensures _ ∙ ap left_by went)
    ∙ is_done _ _ _ (admitted_next _ _ _ _ known.value _ refl ∙ sym (ap (λ (x : Progress). x.refusal) went))
