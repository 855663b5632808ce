use Rattle.std.proofs.Common.{rules, refl, ap, sym, subst, List, ℕ, arith}
use Rattle.std.proofs.lemmas.Result.{err_from_is_err_and}
use Rattle.machine.specs.Legal.{Legal}
use Rattle.machine.proofs.Legal.{LegalPins}
use Rattle.deeds.proofs.Fits.{AllRead}
use Rattle.execute.specs.ForCode.{Performed}
use Rattle.interrupts.specs.Grants.{grant_of}
use Rattle.step.proofs.Good.{granted_sound}
use Rattle.numbers.proofs.Refused.{numbered}
use Rattle.step.proofs.Acts.{read_any, step_refused, step_taken}
use Rattle.step.proofs.step_in.Goals as goal
use Rattle.step.proofs.step_in.Goals.{After-slice_known-1}

memory_read : (s : After-slice_known-1) → AllRead s.args.mem.now
memory_read s = read_any s.args.mem.now (λ i. omega (arith, s.type_inv.mem i))

pub returns-in_err-cycles : goal.returns-in_err-cycles
returns-in_err-cycles c =
    let image_read = read_any c.args.image.now (λ i. omega (arith, c.type_inv.image i)) in
    let p = err_from_is_err_and c.from_residual.result c.from_residual.ensures.1 in
    rw (p.1, p.2)
    (step_refused c.args.pins _ _ c.args.m.now c.requires.legal c.requires.rest_value image_read _ c.in_err-cycles.ensures (numbered c.in_err-cycles.field-0.0))

pub span-e-requires : goal.span-e-requires
span-e-requires c =
    let image_read = read_any c.args.image.now (λ i. omega (arith, c.type_inv.image i)) in
    let memory_read = memory_read (goal.at.span-e-requires c).After-slice_known-1 in
    let sound = granted_sound c.args.pins _ _ c.args.m.now (grant_of c.args.m.now) c.requires.legal (search rules) image_read memory_read in
    subst Legal (sym (ap (λ (x : Performed). x.machine) c.in_ok-cycles.ensures)) sound.legal

pub returns : goal.returns
returns c =
    let image_read = read_any c.args.image.now (λ i. omega (arith, c.type_inv.image i)) in
    step_taken c.args.pins _ _ c.args.m.now c.requires.legal c.requires.rest_value image_read _ c.in_ok-cycles.ensures _ refl c.span-e.ensures
