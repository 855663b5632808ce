-- For the contracts of the code alone, which returns in parts what the definitions say whole: nothing here has to be believed.
use Rattle.std.specs.Prelude.{List, [], ◌∷◌, ℕ, eqb, Result, Err}
use Rattle.numbers.specs.declared.Refusal.{Refusal}
use Rattle.numbers.specs.declared.Refusal.TheVariants as refusal
use Rattle.word.specs.Choose.{pick}
use Rattle.opcodes.specs.Instruction.{decode_of}
use Rattle.opcodes.specs.declared.Decoded.{Decoded}
use Rattle.execute.specs.Execute.{code_at}
use Rattle.saved.specs.Saved.{first_of, refusal_of}
use Rattle.z8.specs.Calls.{image_refusal, memory_refusal}

-- the first of 7, 6, 1, 2
unfoldable pub admitted_of : List ℕ → List ℕ → List ℕ → ℕ
admitted_of saved image memory = first_of (refusal_of saved ∷ image_refusal image ∷ memory_refusal memory ∷ [])

-- what stands at an address of the image, decoded; or 1 or 5
unfoldable pub decoded_at : List ℕ → ℕ → Result Decoded Refusal
decoded_at image at =
    let i = code_at image at in
    pick (eqb (image_refusal image) 0) (decode_of i.op i.first i.second) (Err refusal.Image)
