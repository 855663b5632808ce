use mathlib.Core.Path.{sym}
use Rattle.z8.specs.ForCode.{admitted_of}
use Rattle.numbers.proofs.Refused.{numbered}
use Rattle.z8.proofs.Refusals.{passed_with, loads, load_refused}
use Rattle.z8.proofs.admitted.Goals as goal

pub returns-in_err-m-clause-value : goal.returns-in_err-m-clause-value
unfolding admitted_of
returns-in_err-m-clause-value c =
    passed_with _ _ _ c.from_residual.ensures.1 (rw (load_refused _ (sym c.in_err-m.ensures.value), numbered c.in_err-m.field-0.0))

pub returns-in_err-image_refusal-clause-value : goal.returns-in_err-image_refusal-clause-value
unfolding admitted_of
returns-in_err-image_refusal-clause-value c =
    let loaded = loads _ (sym c.in_ok-m.ensures.value) in
    passed_with _ _ _ c.from_residual-in_err-image_refusal.ensures.1 (rw (loaded.taken, ← c.in_err-image_refusal.ensures.value, numbered c.in_err-image_refusal.field-0.0))

pub returns-in_err-memory_refusal-clause-value : goal.returns-in_err-memory_refusal-clause-value
unfolding admitted_of
returns-in_err-memory_refusal-clause-value c =
    let loaded = loads _ (sym c.in_ok-m.ensures.value) in
    passed_with _ _ _ c.from_residual-in_err-memory_refusal.ensures.1
    (rw (loaded.taken, ← c.in_ok-image_refusal.ensures.value, ← c.in_err-memory_refusal.ensures, numbered c.in_err-memory_refusal.field-0.0))

pub returns-clause-value : goal.returns-clause-value
unfolding admitted_of
returns-clause-value c =
    let loaded = loads _ (sym c.in_ok-m.ensures.value) in
    rw (loaded.taken, ← c.in_ok-image_refusal.ensures.value, ← c.in_ok-memory_refusal.ensures)

pub returns-clause-machine : goal.returns-clause-machine
returns-clause-machine c = ((loads _ (sym c.in_ok-m.ensures.value)).is, c.in_ok-m.ensures.legal)

pub returns-clause-long : goal.returns-clause-long
returns-clause-long c = (loads _ (sym c.in_ok-m.ensures.value)).long
