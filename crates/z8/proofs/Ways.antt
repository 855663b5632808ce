-- A step, a run and a span of a loaded machine, as what is left behind.
use mathlib.Core.Path.{◌≡◌, ◌∙◌, refl, ap}
use mathlib.Core.List.{List}
use mathlib.Core.Bool.{Bool, true, false}
use Prim.Native.Nat.{ℕ}
use lib.Dec.{eqb, ltb}
use Rattle.machine.specs.Clock.{Ran}
use Rattle.machine.specs.Legal.{Legal}
use Rattle.machine.specs.declared.Machine.{Machine}
use Rattle.machine.specs.declared.Pins.{Pins}
use Rattle.machine.proofs.Legal.{LegalPins}
use Rattle.deeds.proofs.Fits.{AllRead}
use Rattle.saved.specs.Saved.{machine_of, saved_of}
use Rattle.step.specs.Step.{Progress, step_of}
use Rattle.step.specs.Run.{budget_refusal, nothing_done}
use Rattle.step.proofs.Theorems.{refused_step}
use Rattle.std.specs.Prelude.{Result, Err}
use Rattle.numbers.specs.Numbers.{number_of, image_most}
use Rattle.numbers.specs.declared.Refusal.{Refusal}
use Rattle.numbers.proofs.Refused.{number_some}
use Rattle.numbers.specs.declared.Refusal.TheVariants as refusal
use Rattle.word.specs.Choose.{pick}
use Rattle.opcodes.specs.Instruction.{decode_of}
use Rattle.opcodes.specs.declared.Decoded.{Decoded}
use Rattle.execute.specs.Execute.{code_at}
use lib.ListN.{length}
use Rattle.z8.specs.Calls.{Lent, Four, decoded_into, decode_call_of, answer, lent_span, left_by, step_call_of, run_call_of}
use Rattle.z8.proofs.Refusals.{is_refused, not_admitted}
use Rattle.clock.specs.declared.Ends.{Ends}
use Rattle.clock.specs.ForCode.{ran_of}
use Rattle.z8.specs.ForCode.{admitted_of, decoded_at}

-- by its number and what is left
pub told : (n : ℕ) (left : Lent) (t : Progress) → n ≡ t.refusal → left ≡ left_by t → answer n left ≡ answer t.refusal (left_by t)
told n left t e f = rw (e, f)

-- a refused step has left the data memory
pub memory_stays : (p : Pins) (image memory : List ℕ) (m n : Machine) (after : List ℕ) (e : Refusal) → Legal m → LegalPins p → AllRead image → AllRead memory
    → nothing_done (number_of e) n after ≡ step_of p image memory m → after ≡ memory
memory_stays p image memory m n after e l lp li lm s =
    ap (λ (x : Progress). x.memory) s
    ∙ ap (λ (x : Progress). x.memory) (refused_step p image lp li memory m l lm (λ z. number_some e (ap (λ (x : Progress). x.refusal) s ∙ z)))

pub span_left : (m : Machine) (e : Ends) (saved : List ℕ) (t : Ran) → ran_of m e ≡ t → saved ≡ saved_of m
    → lent_span saved e.ends0 e.ends1 ≡ lent_span (saved_of t.machine) t.ends0 t.ends1
span_left m e saved t r v = rw v (ap (λ (x : Ran). lent_span (saved_of x.machine) x.ends0 x.ends1) r)

-- what is not admitted is neither a step nor a run
module _ (p : Pins) (image : List ℕ) (l : Lent) (n : ℕ) (a : n ≡ admitted_of l.saved image l.memory) (d : n ≡ 0 → ⊥) where
  pub no_step : answer n l ≡ step_call_of p image l
  unfolding step_call_of
  no_step = is_refused _ _ _ _ (not_admitted l.saved image l.memory n a (step_of p image l.memory (machine_of l.saved)).refusal d) d

  pub no_run : (budget : ℕ) → answer n l ≡ run_call_of p image budget l
  unfolding run_call_of
  no_run budget = is_refused _ _ _ _ (not_admitted l.saved image l.memory n a (budget_refusal budget) d) d

-- what is decoded into the places lent
pub decode_is : (image : List ℕ) (at : ℕ) (given : Four) → decode_call_of image at given ≡ decoded_into given (decoded_at image at)
unfolding decode_call_of decoded_at
decode_is image at given = go (ltb image_most (length image)) (decode_of (code_at image at).op (code_at image at).first (code_at image at).second)
  where
    go : (b : Bool) (d : Result Decoded Refusal) → pick (eqb (pick b 1 0) 0) (decoded_into given d) (answer (pick b 1 0) given)
        ≡ decoded_into given (pick (eqb (pick b 1 0) 0) d (Err refusal.Image))
    go true d = refl
    go false d = refl
