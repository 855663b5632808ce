-- What each call of the C library answers and leaves (01 "Numbers the encoder sees"): of all it was given, all that the caller can see
-- afterwards.
use Rattle.std.specs.Prelude.{List, [], ◌∷◌, ℕ, eqb, ltb, length, Result, Ok, Err}
use Rattle.numbers.specs.Numbers.{refused_image, refused_data, number_of, answered, image_most, data_most}
use Rattle.numbers.specs.declared.Refusal.{Refusal}
use Rattle.word.specs.Choose.{pick}
use Rattle.opcodes.specs.Instruction.{decode_of, encode_of}
use Rattle.opcodes.specs.declared.Decoded.{Decoded}
use Rattle.opcodes.specs.declared.Encoded.{Encoded}
use Rattle.machine.specs.Clock.{span_of}
use Rattle.machine.specs.Start.{new_of, made_of, default_of, reset_of}
use Rattle.machine.specs.declared.Pins.{Pins}
use Rattle.execute.specs.Execute.{code_at}
use Rattle.saved.specs.Saved.{machine_of, saved_of, first_of, length_refusal, refusal_of}
use Rattle.step.specs.Step.{Progress, step_of}
use Rattle.step.specs.Run.{budget_refusal, run_of}

-- ---- what is lent, and what is left

-- the number answered, and what a caller then finds in what it lent to be written
pub record Answer (A : Type 0) : Type 0 where
  pub number : ℕ
  pub left : A

abbrev pub answer : {A : Type 0} → ℕ → A → Answer A
answer number left = record { number = number; left = left }

-- to a step or a run: the saved machine, the data memory, and three numbers
pub record Lent : Type 0 where
  pub saved : List ℕ
  pub memory : List ℕ
  pub cycles : ℕ
  pub ends0 : ℕ
  pub ends1 : ℕ

abbrev pub lent : List ℕ → List ℕ → ℕ → ℕ → ℕ → Lent
lent saved memory cycles ends0 ends1 = record { saved = saved; memory = memory; cycles = cycles; ends0 = ends0; ends1 = ends1 }

-- to a span: the saved machine and two numbers
pub record LentSpan : Type 0 where
  pub saved : List ℕ
  pub ends0 : ℕ
  pub ends1 : ℕ

abbrev pub lent_span : List ℕ → ℕ → ℕ → LentSpan
lent_span saved ends0 ends1 = record { saved = saved; ends0 = ends0; ends1 = ends1 }

-- to decoding (opcode, operands, length) and encoding (three bytes, length): four numbers
pub record Four : Type 0 where
  pub one : ℕ
  pub two : ℕ
  pub three : ℕ
  pub size : ℕ

abbrev pub four : ℕ → ℕ → ℕ → ℕ → Four
four one two three size = record { one = one; two = two; three = three; size = size }

-- the pins of ports 0 to 3
abbrev pub pins_given : ℕ → ℕ → ℕ → ℕ → Pins
pins_given pins0 pins1 pins2 pins3 = record { port0 = pins0; port1 = pins1; port2 = pins2; port3 = pins3 }

-- ---- refusals

-- Each call lists those that it can meet, and the first of them that applies answers (`first_of`): 7 is `length_refusal`, 7 and 6 together are
-- `refusal_of`, 4 is `budget_refusal`.

-- "program image over 65,536 bytes"
abbrev pub image_refusal : List ℕ → ℕ
image_refusal image = pick (ltb image_most (length image)) refused_image 0

-- "data memory over 65,536 bytes"
abbrev pub memory_refusal : List ℕ → ℕ
memory_refusal memory = pick (ltb data_most (length memory)) refused_data 0

-- "number alone, nothing changed": what was lent, where it is refused; else what the call does, and 0
abbrev pub unless_refused : {A : Type 0} → ℕ → A → A → Answer A
unless_refused refusal given done = pick (eqb refusal 0) (answer 0 done) (answer refusal given)

-- ---- the calls

-- a new machine: 7, 3
unfoldable pub make_of : ℕ → ℕ → List ℕ → Answer (List ℕ)
make_of kind cost saved =
    unless_refused (first_of (length_refusal saved ∷ answered (made_of kind cost) ∷ [])) saved (saved_of (new_of kind cost))

-- "type 11 and entry cost 20 unless others are named": 7
unfoldable pub make_default_of : List ℕ → Answer (List ℕ)
make_default_of saved = unless_refused (length_refusal saved) saved (saved_of default_of)

-- checking: 7, 6. It is `refusal_of` itself, as nothing is lent to be written.

-- reset: 7, 6
unfoldable pub reset_call_of : List ℕ → Answer (List ℕ)
reset_call_of saved = unless_refused (refusal_of saved) saved (saved_of (reset_of (machine_of saved)))

-- decoding: 1, 5. What stands at the address is decoded if the image isn't refused.
abbrev pub decoded_into : Four → Result Decoded Refusal → Answer Four
decoded_into given (Ok i) = answer 0 (four i.op i.first i.second i.size)
decoded_into given (Err e) = answer (number_of e) given

unfoldable pub decode_call_of : List ℕ → ℕ → Four → Answer Four
decode_call_of image at given =
    let i = code_at image at in
    pick (eqb (image_refusal image) 0)
    (decoded_into given (decode_of i.op i.first i.second))
    (answer (image_refusal image) given)

-- encoding: 8
abbrev pub encoded_into : Four → Result Encoded Refusal → Answer Four
encoded_into given (Ok x) = answer 0 (four x.byte0 x.byte1 x.byte2 x.size)
encoded_into given (Err e) = answer (number_of e) given

unfoldable pub encode_call_of : ℕ → ℕ → ℕ → Four → Answer Four
encode_call_of op first second given = encoded_into given (encode_of op first second)

-- what a step or a run comes to, in the places lent
abbrev pub left_by : Progress → Lent
left_by s = lent (saved_of s.machine) s.memory s.cycles s.ends0 s.ends1

-- a step: 7, 6, 1, 2, 5
unfoldable pub step_call_of : Pins → List ℕ → Lent → Answer Lent
step_call_of pins image l =
    let s = step_of pins image l.memory (machine_of l.saved) in
    unless_refused (first_of (refusal_of l.saved ∷ image_refusal image ∷ memory_refusal l.memory ∷ s.refusal ∷ [])) l (left_by s)

-- a run: 7, 6, 1, 2, 4 with nothing changed. "5 [..] Run: state, memory, cycles and ends as after the steps done before"
unfoldable pub run_call_of : Pins → List ℕ → ℕ → Lent → Answer Lent
run_call_of pins image budget l =
    let refusal = first_of (refusal_of l.saved ∷ image_refusal image ∷ memory_refusal l.memory ∷ budget_refusal budget ∷ []) in
    let s = run_of pins image l.memory (machine_of l.saved) budget in
    pick (eqb refusal 0) (answer s.refusal (left_by s)) (answer refusal l)

-- a span: 7, 6
unfoldable pub span_call_of : ℕ → LentSpan → Answer LentSpan
span_call_of n l =
    let r = span_of n (machine_of l.saved) in
    unless_refused (refusal_of l.saved) l (lent_span (saved_of r.machine) r.ends0 r.ends1)
