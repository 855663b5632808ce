use mathlib.Core.Path.{sym}
use Rattle.z8.specs.Calls.{make_default_of}
use Rattle.z8.proofs.Refusals.{refused_with}
use Rattle.z8.proofs.make_default_in.Goals as goal

pub returns-in_err-length_refusal : goal.returns-in_err-length_refusal
unfolding make_default_of
returns-in_err-length_refusal c = refused_with _ _ _ _ _ c.from_residual.ensures.1 (sym c.in_err-length_refusal.ensures)

pub returns : goal.returns
unfolding make_default_of
returns c = rw (c.save.ensures, c.default.ensures, ← c.in_ok-length_refusal.ensures)
