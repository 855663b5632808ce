use mathlib.Core.Path.{◌≡◌, sym}
use mathlib.Core.List.{[], ◌∷◌}
use Rattle.numbers.specs.Numbers.{answered, number_of}
use Rattle.machine.specs.Start.{made_of}
use Rattle.saved.specs.Saved.{first_of, length_refusal}
use Rattle.z8.specs.Calls.{make_of}
use Rattle.numbers.proofs.Refused.{numbered}
use Rattle.z8.proofs.Refusals.{made_is, refused_with}
use Rattle.z8.proofs.make_in.Goals as goal

pub returns-in_err-length_refusal : goal.returns-in_err-length_refusal
unfolding make_of
returns-in_err-length_refusal c =
    let e = c.in_err-length_refusal.field-0.0 in
    let first : first_of (length_refusal c.args.saved.now ∷ answered (made_of c.args.kind c.args.cost) ∷ []) ≡ number_of e =
    rw (← c.in_err-length_refusal.ensures, numbered e) in
    refused_with _ _ _ _ e c.from_residual.ensures.1 first

pub returns-in_err-m : goal.returns-in_err-m
unfolding make_of
returns-in_err-m c =
    let e = c.in_err-m.field-0.0 in
    let first : first_of (length_refusal c.args.saved.now ∷ answered (made_of c.args.kind c.args.cost) ∷ []) ≡ number_of e =
    rw (← c.in_ok-length_refusal.ensures, ← c.in_err-m.ensures, numbered e) in
    refused_with _ _ _ _ e c.from_residual-in_err-m.ensures.1 first

pub returns : goal.returns
unfolding make_of
returns c =
    rw (c.save.ensures, ← c.in_ok-length_refusal.ensures, ← c.in_ok-m.ensures, made_is _ _ (sym c.in_ok-m.ensures))
