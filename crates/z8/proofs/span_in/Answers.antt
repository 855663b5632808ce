use mathlib.Core.Path.{◌∙◌, sym, ap}
use Rattle.machine.specs.Clock.{span_of}
use Rattle.machine.specs.declared.Machine.{Machine}
use Rattle.z8.specs.Calls.{answer, LentSpan, span_call_of}
use Rattle.z8.proofs.Refusals.{is_done, refused_with, loads, load_refused}
use Rattle.z8.proofs.Ways.{span_left}
use Rattle.z8.proofs.span_in.Goals as goal

pub returns-in_err-m : goal.returns-in_err-m
unfolding span_call_of
returns-in_err-m c = refused_with _ _ _ _ _ c.from_residual.ensures.1 (load_refused _ (sym c.in_err-m.ensures.value))

pub save-requires : goal.save-requires
save-requires c = (loads _ (sym c.in_ok-m.ensures.value)).long

pub returns : goal.returns
unfolding span_call_of
returns c =
    let loaded = loads _ (sym c.in_ok-m.ensures.value) in
    let went = c.span-e.ensures ∙ ap (λ (m : Machine). span_of c.args.span m) loaded.is in
    ap (λ (x : LentSpan). answer 0 x) (span_left _ _ _ _ went c.save.ensures) ∙ is_done _ _ _ loaded.taken
