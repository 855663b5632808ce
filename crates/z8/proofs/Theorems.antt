-- What the order asks of the calls beyond their contracts.
use mathlib.Core.Path.{◌≡◌, ◌∙◌, refl, sym, ap}
use mathlib.Core.Bool.{Bool, true, false, ◌&&◌}
use mathlib.Core.List.{List, [], ◌∷◌}
use Prim.Native.Nat.{ℕ, ◌<◌}
use lib.Dec.{eqb, ltb}
use lib.ListN.{length}
use borrow.Author.Tests.{eqb-true, eqb-false, lt-ltb}
use native.Mathlib.Omega.{arith}
use Rattle.std.specs.Prelude.{Result, Ok, Err, IfOk}
use Rattle.numbers.specs.Numbers.{answered, version, refused_image, image_most}
use Rattle.numbers.specs.declared.Refusal.{Refusal}
use Rattle.numbers.specs.declared.Refusal.TheVariants as refusal
use Rattle.word.specs.Choose.{pick}
use Rattle.word.proofs.Computed.{by_test}
use Rattle.opcodes.specs.Instruction.{decode_of, encode_of}
use Rattle.opcodes.specs.declared.Decoded.{Decoded}
use Rattle.opcodes.specs.declared.Encoded.{Encoded}
use Rattle.machine.specs.Clock.{span_of}
use Rattle.machine.specs.Legal.{Legal}
use Rattle.machine.specs.Start.{is_kind, is_cost, new_of, made_of, default_of, reset_of}
use Rattle.machine.specs.declared.Machine.{Machine}
use Rattle.machine.specs.declared.Pins.{Pins}
use Rattle.machine.proofs.Legal.{LegalPins, made_legal, default_legal, reset_legal, span_legal}
use Rattle.deeds.proofs.Fits.{AllRead}
use Rattle.execute.specs.Execute.{code_at}
use Rattle.saved.specs.Saved.{byte, machine_of, saved_of, first_of, length_refusal, refusal_of}
use Rattle.saved.proofs.RoundTrip.{bytes_and_back, machine_and_back}
use Rattle.step.specs.Step.{Progress, step_of}
use Rattle.step.specs.Run.{budget_refusal, run_of}
use Rattle.step.proofs.Theorems.{step_legal, run_legal}
use Rattle.z8.specs.Calls.{Answer, Lent, LentSpan, Four, answer, lent_span, image_refusal, memory_refusal, unless_refused, decoded_into, encoded_into, left_by, make_of, make_default_of, reset_call_of, decode_call_of, encode_call_of, step_call_of, run_call_of, span_call_of}
use Rattle.z8.proofs.Refusals.{is_refused, is_done}

-- ---- "Show that any two results allowed are equal": a contract is `answer n left ≡ x`, x made of all that was given.
one_answer : {A : Type 0} (x : Answer A) (n n' : ℕ) (left left' : A) → answer n left ≡ x → answer n' left' ≡ x → (n ≡ n') × (left ≡ left')
one_answer {A} x n n' left left' p q = (ap (λ (a : Answer A). a.number) (p ∙ sym q), ap (λ (a : Answer A). a.left) (p ∙ sym q))

abbrev Decided : {A : Type 0} → Answer A → Type 0
Decided {A} x = (n n' : ℕ) (left left' : A) → answer n left ≡ x → answer n' left' ≡ x → (n ≡ n') × (left ≡ left')

pub make_decided : (kind cost : ℕ) (saved : List ℕ) → Decided (make_of kind cost saved)
make_decided kind cost saved = one_answer (make_of kind cost saved)

pub make_default_decided : (saved : List ℕ) → Decided (make_default_of saved)
make_default_decided saved = one_answer (make_default_of saved)

pub version_decided : (n n' : ℕ) → n ≡ version → n' ≡ version → n ≡ n'
version_decided n n' p q = p ∙ sym q

pub check_decided : (saved : List ℕ) (n n' : ℕ) → n ≡ refusal_of saved → n' ≡ refusal_of saved → n ≡ n'
check_decided saved n n' p q = p ∙ sym q

pub reset_decided : (saved : List ℕ) → Decided (reset_call_of saved)
reset_decided saved = one_answer (reset_call_of saved)

pub decode_decided : (image : List ℕ) (at : ℕ) (given : Four) → Decided (decode_call_of image at given)
decode_decided image at given = one_answer (decode_call_of image at given)

pub encode_decided : (op first second : ℕ) (given : Four) → Decided (encode_call_of op first second given)
encode_decided op first second given = one_answer (encode_call_of op first second given)

pub step_decided : (p : Pins) (image : List ℕ) (given : Lent) → Decided (step_call_of p image given)
step_decided p image given = one_answer (step_call_of p image given)

pub run_decided : (p : Pins) (image : List ℕ) (budget : ℕ) (given : Lent) → Decided (run_call_of p image budget given)
run_decided p image budget given = one_answer (run_call_of p image budget given)

pub span_decided : (n : ℕ) (given : LentSpan) → Decided (span_call_of n given)
span_decided n given = one_answer (span_call_of n given)

-- ---- "tested in the order 7, 6, 1, 2 [..]": of a legal machine, an image too long is 1, whatever the data memory's length.
module _ (p : Pins) (image : List ℕ) (given : Lent) (legal : refusal_of given.saved ≡ 0) (long : image_most < length image) where
  over : ltb image_most (length image) ≡ true
  over = lt-ltb image_most (length image) long

  pub step_image_first : step_call_of p image given ≡ answer refused_image given
  unfolding step_call_of
  step_image_first = rw (legal, over)

  pub run_image_first : (budget : ℕ) → run_call_of p image budget given ≡ answer refused_image given
  unfolding run_call_of
  run_image_first budget = rw (legal, over)

-- ---- "number alone, nothing changed"
untouched : {A : Type 0} (f : ℕ) (given done : A) → ((unless_refused f given done).number ≡ 0 → ⊥) → (unless_refused f given done).left ≡ given
untouched {A} f given done = by_test (λ (a : Answer A). (a.number ≡ 0 → ⊥) → a.left ≡ given) (eqb f 0) (λ t d. absurd (d refl)) (λ t d. refl)

pub make_untouched : (kind cost : ℕ) (saved : List ℕ) → ((make_of kind cost saved).number ≡ 0 → ⊥) → (make_of kind cost saved).left ≡ saved
unfolding make_of
make_untouched kind cost saved = untouched (first_of (length_refusal saved ∷ answered (made_of kind cost) ∷ [])) saved (saved_of (new_of kind cost))

pub make_default_untouched : (saved : List ℕ) → ((make_default_of saved).number ≡ 0 → ⊥) → (make_default_of saved).left ≡ saved
unfolding make_default_of
make_default_untouched saved = untouched (length_refusal saved) saved (saved_of default_of)

pub reset_untouched : (saved : List ℕ) → ((reset_call_of saved).number ≡ 0 → ⊥) → (reset_call_of saved).left ≡ saved
unfolding reset_call_of
reset_untouched saved = untouched (refusal_of saved) saved (saved_of (reset_of (machine_of saved)))

pub step_untouched : (p : Pins) (image : List ℕ) (given : Lent) → ((step_call_of p image given).number ≡ 0 → ⊥) → (step_call_of p image given).left ≡ given
unfolding step_call_of
step_untouched p image given =
    let s = step_of p image given.memory (machine_of given.saved) in
    untouched (first_of (refusal_of given.saved ∷ image_refusal image ∷ memory_refusal given.memory ∷ s.refusal ∷ [])) given (left_by s)

pub span_untouched : (n : ℕ) (given : LentSpan) → ((span_call_of n given).number ≡ 0 → ⊥) → (span_call_of n given).left ≡ given
unfolding span_call_of
span_untouched n given =
    let r = span_of n (machine_of given.saved) in
    untouched (refusal_of given.saved) given (lent_span (saved_of r.machine) r.ends0 r.ends1)

-- decoding and encoding: an instruction is answered with 0, and else the four numbers stay
decoded_untouched : (given : Four) (d : Result Decoded Refusal) → ((decoded_into given d).number ≡ 0 → ⊥) → (decoded_into given d).left ≡ given
decoded_untouched given (Ok i) refused = absurd (refused refl)
decoded_untouched given (Err e) refused = refl

pub decode_untouched : (image : List ℕ) (at : ℕ) (given : Four) → ((decode_call_of image at given).number ≡ 0 → ⊥) → (decode_call_of image at given).left ≡ given
unfolding decode_call_of
decode_untouched image at given =
    let i = code_at image at in
    by_test (λ (a : Answer Four). (a.number ≡ 0 → ⊥) → a.left ≡ given) (eqb (image_refusal image) 0)
    (λ t. decoded_untouched given (decode_of i.op i.first i.second))
    (λ t refused. refl)

encoded_untouched : (given : Four) (e : Result Encoded Refusal) → ((encoded_into given e).number ≡ 0 → ⊥) → (encoded_into given e).left ≡ given
encoded_untouched given (Ok x) refused = absurd (refused refl)
encoded_untouched given (Err e) refused = refl

pub encode_untouched : (op first second : ℕ) (given : Four) → ((encode_call_of op first second given).number ≡ 0 → ⊥) → (encode_call_of op first second given).left ≡ given
unfolding encode_call_of
encode_untouched op first second given = encoded_untouched given (encode_of op first second)

-- a run refused for what it was lent, by 7, 6, 1, 2 or 4
pub run_untouched : (p : Pins) (image : List ℕ) (budget : ℕ) (given : Lent) (n : ℕ)
    → first_of (refusal_of given.saved ∷ image_refusal image ∷ memory_refusal given.memory ∷ budget_refusal budget ∷ []) ≡ n → (n ≡ 0 → ⊥)
    → run_call_of p image budget given ≡ answer n given
unfolding run_call_of
run_untouched p image budget given n e d = sym (is_refused _ given _ n e d)

-- A run admitted leaves what its steps left, whether it stopped at 5 or not.
pub run_keeps : (p : Pins) (image : List ℕ) (budget : ℕ) (given : Lent)
    → first_of (refusal_of given.saved ∷ image_refusal image ∷ memory_refusal given.memory ∷ budget_refusal budget ∷ []) ≡ 0
    → run_call_of p image budget given ≡ answer (run_of p image given.memory (machine_of given.saved) budget).refusal (left_by (run_of p image given.memory (machine_of given.saved) budget))
unfolding run_call_of
run_keeps p image budget given e = sym (is_done _ given _ e)

-- ---- A legal machine is left legal, whatever the answer; and a new machine is.
saves_legal : {m : Machine} → Legal m → refusal_of (saved_of m) ≡ 0
saves_legal {m} l = (machine_and_back m l).1

unless_legal : (f : ℕ) (saved done : List ℕ) → refusal_of saved ≡ 0 → refusal_of done ≡ 0 → refusal_of (unless_refused f saved done).left ≡ 0
unless_legal f saved done l k = by_test (λ (a : Answer (List ℕ)). refusal_of a.left ≡ 0) (eqb f 0) (λ t. k) (λ t. l)

-- what is made where nothing is refused
new_legal : (kind cost : ℕ) → answered (made_of kind cost) ≡ 0 → Legal (new_of kind cost)
unfolding made_of
new_legal kind cost = go (is_kind kind && is_cost cost) (made_legal kind cost)
  where
    go : (b : Bool) → IfOk (pick {A = Result Machine Refusal} b (Ok (new_of kind cost)) (Err refusal.Making)) (λ m. Legal m)
        → answered (pick {A = Result Machine Refusal} b (Ok (new_of kind cost)) (Err refusal.Making)) ≡ 0 → Legal (new_of kind cost)
    go true l e = l
    go false l e = absurd (omega arith)

last_none : (a b : ℕ) → first_of (a ∷ b ∷ []) ≡ 0 → b ≡ 0
last_none a b = by_test (λ (r : ℕ). r ≡ 0 → b ≡ 0) (eqb a 0) (λ t. by_test (λ (r : ℕ). r ≡ 0 → b ≡ 0) (eqb b 0) (λ u h. eqb-true b 0 u) (λ u h. h)) (λ t h. absurd (eqb-false a 0 t h))

pub make_leaves_legal : (kind cost : ℕ) (saved : List ℕ) → (make_of kind cost saved).number ≡ 0 → refusal_of (make_of kind cost saved).left ≡ 0
unfolding make_of
make_leaves_legal kind cost saved =
    let f : ℕ = first_of (length_refusal saved ∷ answered (made_of kind cost) ∷ []) in
    by_test (λ (a : Answer (List ℕ)). a.number ≡ 0 → refusal_of a.left ≡ 0) (eqb f 0)
    (λ t e. saves_legal (new_legal kind cost (last_none (length_refusal saved) (answered (made_of kind cost)) (eqb-true f 0 t))))
    (λ t e. absurd (eqb-false f 0 t e))

pub make_default_leaves_legal : (saved : List ℕ) → (make_default_of saved).number ≡ 0 → refusal_of (make_default_of saved).left ≡ 0
unfolding make_default_of
make_default_leaves_legal saved =
    by_test (λ (a : Answer (List ℕ)). a.number ≡ 0 → refusal_of a.left ≡ 0) (eqb (length_refusal saved) 0)
    (λ t e. saves_legal default_legal)
    (λ t e. absurd (eqb-false (length_refusal saved) 0 t e))

module _ (saved : List ℕ) (bytes : (i : ℕ) → byte saved i < 256) (legal : refusal_of saved ≡ 0) where
  loaded : Legal (machine_of saved)
  loaded = (bytes_and_back saved bytes legal).0

  pub reset_leaves_legal : refusal_of (reset_call_of saved).left ≡ 0
  unfolding reset_call_of
  reset_leaves_legal = unless_legal (refusal_of saved) saved _ legal (saves_legal (reset_legal (machine_of saved) loaded))

  pub span_leaves_legal : (n ends0 ends1 : ℕ) → refusal_of (span_call_of n (lent_span saved ends0 ends1)).left.saved ≡ 0
  unfolding span_call_of
  span_leaves_legal n ends0 ends1 =
      by_test (λ (a : Answer LentSpan). refusal_of a.left.saved ≡ 0) (eqb (refusal_of saved) 0) (λ t. saves_legal (span_legal n loaded)) (λ t. legal)

  module _ (p : Pins) (image memory : List ℕ) (lp : LegalPins p) (li : AllRead image) (lm : AllRead memory) (cycles ends0 ends1 : ℕ) where
    abbrev given : Lent
    given = record { saved = saved; memory = memory; cycles = cycles; ends0 = ends0; ends1 = ends1 }

    admitting : ℕ → List ℕ
    admitting next = refusal_of saved ∷ image_refusal image ∷ memory_refusal memory ∷ next ∷ []

    left_legal : (f : ℕ) (done : Answer Lent) → refusal_of done.left.saved ≡ 0 → refusal_of (pick (eqb f 0) done (answer f given)).left.saved ≡ 0
    left_legal f done k = by_test (λ (a : Answer Lent). refusal_of a.left.saved ≡ 0) (eqb f 0) (λ t. k) (λ t. legal)

    pub step_leaves_legal : refusal_of (step_call_of p image given).left.saved ≡ 0
    unfolding step_call_of admitting
    step_leaves_legal =
        let s : Progress = step_of p image memory (machine_of saved) in
        left_legal (first_of (admitting s.refusal)) (answer 0 (left_by s)) (saves_legal (step_legal p image lp li memory (machine_of saved) loaded lm).0)

    pub run_leaves_legal : (budget : ℕ) → refusal_of (run_call_of p image budget given).left.saved ≡ 0
    unfolding run_call_of admitting
    run_leaves_legal budget =
        let s : Progress = run_of p image memory (machine_of saved) budget in
        left_legal (first_of (admitting (budget_refusal budget))) (answer s.refusal (left_by s)) (saves_legal (run_legal p image lp li budget memory (machine_of saved) loaded lm))
