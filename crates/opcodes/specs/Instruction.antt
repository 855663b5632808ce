-- An instruction, from its bytes and to its bytes (01, "Instructions").
use Rattle.std.specs.Prelude.{ℕ, Bool, true, false, ◌&&◌, List, [], ◌∷◌, leb, eqb, get_or, Option, Some, None, Result, Ok, Err}
use Rattle.numbers.specs.declared.Refusal.{Refusal}
use Rattle.numbers.specs.declared.Refusal.TheVariants as refusal
use Rattle.word.specs.Choose.{pick}
use Rattle.word.specs.Fields.{lower}
use Rattle.opcodes.specs.declared.Kind.{Kind}
use Rattle.opcodes.specs.declared.Decoded.{Decoded}
use Rattle.opcodes.specs.declared.Encoded.{Encoded}
use Rattle.opcodes.specs.Map.{entry_of}

-- "Lengths by low nibble: 0 to 3 two bytes; 4 to 7 three, except D4 two; 8 to C two; D three; E and F one"
abbrev pub lengths : List ℕ
lengths = 2 ∷ 2 ∷ 2 ∷ 2 ∷ 3 ∷ 3 ∷ 3 ∷ 3 ∷ 2 ∷ 2 ∷ 2 ∷ 2 ∷ 2 ∷ 3 ∷ 1 ∷ 1 ∷ []

unfoldable pub length_of : ℕ → ℕ
length_of op = pick (eqb op 0xD4) 2 (get_or lengths (lower op) 0)

-- the map's entry is an instruction
abbrev pub defined : Option Kind → Bool
defined None = false
defined (Some k) = true

-- operand byte b, number n of the instruction's bytes counted from 1: zero where the opcode hasn't it
abbrev pub operand : ℕ → ℕ → ℕ → ℕ
operand n op b = pick (leb n (length_of op)) b 0

-- an instruction of its opcode, its two operand bytes and its length, and what is encoded, of its length and three bytes
abbrev pub decoded : ℕ → ℕ → ℕ → ℕ → Decoded
decoded op first second size = record { op = op; first = first; second = second; size = size }

abbrev pub encoded : ℕ → ℕ → ℕ → ℕ → Encoded
encoded size byte0 byte1 byte2 = record { byte0 = byte0; byte1 = byte1; byte2 = byte2; size = size }

-- what three bytes of a program, the first of them the opcode, decode to: the opcode, its two operand bytes and its length; or 5
abbrev pub decoded_as : Option Kind → ℕ → ℕ → ℕ → Result Decoded Refusal
decoded_as None op a b = Err refusal.Opcode
decoded_as (Some k) op a b = Ok (decoded op (operand 2 op a) (operand 3 op b) (length_of op))

unfoldable pub decode_of : ℕ → ℕ → ℕ → Result Decoded Refusal
decode_of op a b = decoded_as (entry_of op) op a b

-- "An instruction is an opcode and its operand bytes, those it hasn't being zero"
abbrev pub is_instruction : ℕ → ℕ → ℕ → Bool
is_instruction op first second = defined (entry_of op) && (eqb (operand 2 op first) first && eqb (operand 3 op second) second)

-- "Encoding gives the length and three bytes, unused ones zero"; anything else to encode is 8
unfoldable pub encode_of : ℕ → ℕ → ℕ → Result Encoded Refusal
encode_of op first second =
    pick (is_instruction op first second) (Ok (encoded (length_of op) op first second)) (Err refusal.Instruction)
