-- What the map promises besides the functions' contracts: which opcodes are undefined and how many are defined, what each costs, and
-- that decoding and encoding undo each other. Tests over all 256 opcodes are computed; operand bytes are variables throughout.
use mathlib.Core.Path.{◌≡◌, ◌∙◌, refl, ap}
use mathlib.Core.Bool.{Bool, true, false, ◌&&◌}
use mathlib.Core.List.{List, [], ◌∷◌, ◌++◌}
use Prim.Native.Nat.{ℕ, zero, suc, ◌+◌, ◌*◌, ◌≤◌, ◌<◌}
use native.Mathlib.Omega.{arith}
use native.Mathlib.Decide.{dec_lt}
use lib.ListN.{get_or, get_or-eq_default}
use Rattle.word.specs.Fields.{upper, lower}
use lib.Dec.{T, eqb, leb, eqb→eq, leb→le}
use borrow.Author.Tests.{eq-eqb}
use Rattle.word.specs.Choose.{pick, one_if}
use Rattle.word.proofs.Computed.{below, at, and_left, and_right, agree}
use Rattle.std.specs.Prelude.{Option, Some, None, Result, Ok, Err}
use Rattle.numbers.specs.declared.Refusal.{Refusal}
use Rattle.numbers.specs.declared.Refusal.TheVariants as refusal
use Rattle.opcodes.specs.declared.Kind.{Kind}
use Rattle.opcodes.specs.declared.Decoded.{Decoded}
use Rattle.opcodes.specs.declared.Encoded.{Encoded}
use Rattle.opcodes.specs.Map.{entry_of, opcode_map}
use Rattle.opcodes.specs.ForCode.{cost_of}
use Rattle.opcodes.specs.Cycles.{cycles_of, cycle_map}
use Rattle.opcodes.specs.Instruction.{defined, length_of, operand, decoded, encoded, decode_of, decoded_as, encode_of, is_instruction}

abbrev pub is_defined : ℕ → Bool
is_defined op = defined (entry_of op)

-- the lists that f gives for 0 to n - 1, one after the other
abbrev pub up_to : ℕ → (ℕ → List ℕ) → List ℕ
up_to zero f = []
up_to (suc n) f = up_to n f ++ f n

-- the opcodes at which the map is blank, column by column
abbrev pub undefined_ones : List ℕ
undefined_ones = up_to 16 (λ lo. up_to 16 (λ hi. pick (is_defined (hi * 16 + lo)) [] ((hi * 16 + lo) ∷ [])))

-- at how many numbers below n f passes
abbrev pub count : (ℕ → Bool) → ℕ → ℕ
count f zero = 0
count f (suc n) = one_if (f n) + count f n

-- they are exactly the 25 of 01, in its order
pub undefined_are :
    undefined_ones
    ≡ 0xE2 ∷ 0xF2 ∷ 0x84 ∷ 0x94 ∷ 0xC4 ∷ 0xF4 ∷ 0x85 ∷ 0x95 ∷ 0xC5 ∷ 0xD5 ∷ 0x86 ∷ 0x96 ∷ 0xC6 ∷ 0xF6 ∷ 0x87 ∷ 0x97 ∷ 0xF7
    ∷ 0x0F ∷ 0x1F ∷ 0x2F ∷ 0x3F ∷ 0x4F ∷ 0x5F ∷ 0x6F ∷ 0x7F ∷ []
unfolding entry_of opcode_map
undefined_are = refl

pub defined_are_231 : count is_defined 256 ≡ 231
unfolding entry_of opcode_map
defined_are_231 = refl

-- 6 to 20, whatever the outcome, where the map has an instruction, and nothing where it is blank
in_range : Bool → ℕ → Bool
in_range first op = pick (is_defined op) (leb 6 (cycles_of op first) && leb (cycles_of op first) 20) (eqb (cycles_of op first) 0)

ranges : (first : Bool) → T (below (in_range first) 256)
unfolding in_range entry_of opcode_map cycles_of cycle_map
ranges true = tt
ranges false = tt

pub cycles_range : (op : ℕ) (first : Bool) → op < 256 → defined (entry_of op) ≡ true → (6 ≤ cycles_of op first) × (cycles_of op first ≤ 20)
unfolding in_range
cycles_range op first h d =
    let t = rw d at (at (in_range first) 256 (ranges first) op h) in (
      leb→le 6 (cycles_of op first) (and_left (leb 6 (cycles_of op first)) (leb (cycles_of op first) 20) t),
      leb→le (cycles_of op first) 20 (and_right (leb 6 (cycles_of op first)) (leb (cycles_of op first) 20) t),
    )

pub blank_costs_nothing : (op : ℕ) (first : Bool) → op < 256 → defined (entry_of op) ≡ false → cycles_of op first ≡ 0
unfolding in_range
blank_costs_nothing op first h d = eqb→eq (cycles_of op first) 0 (rw d at (at (in_range first) 256 (ranges first) op h))

-- the cycles by an opcode's entry
abbrev by_entry : Bool → Option Kind → ℕ
by_entry first None = 0
by_entry first (Some k) = cost_of k first

entry_cycles : (first : Bool) (op : ℕ) → op < 256 → cycles_of op first ≡ by_entry first (entry_of op)
unfolding entry_of opcode_map cycles_of cycle_map
entry_cycles true op h = agree (λ x. cycles_of x true) (λ x. by_entry true (entry_of x)) 256 refl op h
entry_cycles false op h = agree (λ x. cycles_of x false) (λ x. by_entry false (entry_of x)) 256 refl op h

-- nothing is defined past the map's 256 cells
beyond : (op : ℕ) → 256 ≤ op → entry_of op ≡ None
unfolding entry_of opcode_map
beyond op h = ap (λ row. get_or row (lower op) None) (get_or-eq_default opcode_map [] {n = upper op} (omega arith))

pub cycles_by_kind : {k : Kind} (op : ℕ) (first : Bool) → entry_of op ≡ Some k → cycles_of op first ≡ cost_of k first
cycles_by_kind {k} op first e = go (dec_lt op 256)
  where
    go : Dec (op < 256) → cycles_of op first ≡ cost_of k first
    go (yes h) = entry_cycles first op h ∙ ap (by_entry first) e
    go (no h) = let none = beyond op (omega arith) in cc

-- a byte that is zero where the instruction hasn't it is its own
own_again : (has : Bool) (b : ℕ) → eqb (pick has (pick has b 0) 0) (pick has b 0) ≡ true
own_again true b = eq-eqb b b refl
own_again false b = refl

-- what decodes to an instruction has an entry in the map
encodes : (op b1 b2 : ℕ) {k : Kind} → entry_of op ≡ Some k
    → encode_of op (operand 2 op b1) (operand 3 op b2) ≡ Ok (encoded (length_of op) op (operand 2 op b1) (operand 3 op b2))
unfolding encode_of
encodes op b1 b2 w = rw (w, own_again (leb 2 (length_of op)) b1, own_again (leb 3 (length_of op)) b2)

-- whatever three bytes decode to is encoded to these bytes, as far as they are the instruction's own, and zero after them
pub encode_undoes_decode : (b0 b1 b2 : ℕ) {i : Decoded} → decode_of b0 b1 b2 ≡ Ok i
    → encode_of i.op i.first i.second ≡ Ok (encoded i.size b0 (operand 2 b0 b1) (operand 3 b0 b2))
unfolding decode_of
encode_undoes_decode b0 b1 b2 d = go (entry_of b0) refl d
  where
    go : {i : Decoded} (e : Option Kind) → entry_of b0 ≡ e → decoded_as e b0 b1 b2 ≡ Ok i
        → encode_of i.op i.first i.second ≡ Ok (encoded i.size b0 (operand 2 b0 b1) (operand 3 b0 b2))
    go None w d = cc
    go {i} (Some k) w d =
        let e : decoded b0 (operand 2 b0 b1) (operand 3 b0 b2) (length_of b0) ≡ i = cc in
        rw (← e) (encodes b0 b1 b2 w)

decodes : (e : Option Kind) (op a b : ℕ) → T (defined e)
    → decoded_as e op a b ≡ Ok (decoded op (operand 2 op a) (operand 3 op b) (length_of op))
decodes None op a b d = absurd d
decodes (Some k) op a b d = refl

-- an instruction's own bytes decode to it
own_bytes : (op a b : ℕ) → T (is_instruction op a b) → decode_of op a b ≡ Ok (decoded op a b (length_of op))
unfolding decode_of
own_bytes op a b i =
    let one = eqb (operand 2 op a) a in
    let two = eqb (operand 3 op b) b in
    let fits = and_right (defined (entry_of op)) (one && two) i in
    let first = eqb→eq (operand 2 op a) a (and_left one two fits) in
    let second = eqb→eq (operand 3 op b) b (and_right one two fits) in
    rw (decodes (entry_of op) op a b (and_left (defined (entry_of op)) (one && two) i), first, second)

-- and whatever an instruction is encoded to decodes to that instruction
pub decode_undoes_encode : (op a b : ℕ) {x : Encoded} → encode_of op a b ≡ Ok x
    → decode_of x.byte0 x.byte1 x.byte2 ≡ Ok (decoded op a b x.size)
unfolding encode_of
decode_undoes_encode op a b {x} e = go (is_instruction op a b) refl e
  where
    go : (t : Bool) → is_instruction op a b ≡ t
        → pick {A = Result Encoded Refusal} t (Ok (encoded (length_of op) op a b)) (Err refusal.Instruction) ≡ Ok x
        → decode_of x.byte0 x.byte1 x.byte2 ≡ Ok (decoded op a b x.size)
    go true i f =
        let is : encoded (length_of op) op a b ≡ x = cc in
        rw (← is) (own_bytes op a b (rw i tt))
    go false i f = cc
