use mathlib.Core.Path.{sym}
use Rattle.z8.specs.Calls.{reset_call_of}
use Rattle.z8.proofs.Refusals.{is_done, refused_with, loads, load_refused}
use Rattle.z8.proofs.reset_in.Goals as goal

pub returns-in_err-m : goal.returns-in_err-m
unfolding reset_call_of
returns-in_err-m c = refused_with _ _ _ _ _ c.from_residual.ensures.1 (load_refused _ (sym c.in_err-m.ensures.value))

pub save-requires : goal.save-requires
save-requires c = (loads _ (sym c.in_ok-m.ensures.value)).long

pub returns : goal.returns
unfolding reset_call_of
returns c =
    let loaded = loads _ (sym c.in_ok-m.ensures.value) in
    rw (c.save.ensures, c.reset-started.ensures, loaded.is) (is_done _ _ _ loaded.taken)
