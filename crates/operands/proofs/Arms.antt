-- What the map has at an opcode, done, and what its column says: every arm of the rooms above rests on these.
use mathlib.Core.Path.{◌≡◌, refl, sym, ◌∙◌, ap}
use mathlib.Core.List.{List}
use Prim.Native.Nat.{ℕ, ◌+◌, ◌-◌, ◌*◌, ◌≤◌, ◌<◌}
use native.Mathlib.Omega.{arith}
use lib.ListN.{get_or}
use Rattle.std.specs.Prelude.{Option, Some, None}
use Rattle.word.specs.Fields.{upper, lower}
use Rattle.word.specs.Words.{plus}
use Rattle.word.proofs.Computed.{agree}
use Rattle.opcodes.specs.Map.{entry_of}
use Rattle.opcodes.specs.Instruction.{length_of}
use Rattle.opcodes.specs.ForCode.{one_mode, two_modes, cost_of}
use Rattle.opcodes.specs.declared.Kind.{Kind}
use Rattle.opcodes.proofs.Cells.{part, in_part}
use Rattle.opcodes.proofs.Theorems.{cycles_by_kind}
use Rattle.machine.specs.State.{with_pc}
use Rattle.machine.specs.Memory.{stored_in}
use Rattle.machine.specs.declared.Machine.{Machine}
use Rattle.machine.specs.declared.Pins.{Pins}
use Rattle.deeds.specs.Modes.{one_at}
use Rattle.deeds.specs.Pages.{deed_of, outcome_of}
use Rattle.deeds.specs.declared.Code.{Code}
use Rattle.execute.specs.Doing.{done_of}
use Rattle.execute.specs.Execute.{execute_as, perform_of, next_of}
use Rattle.std.specs.Prelude.{Err}
use Rattle.numbers.specs.declared.Refusal.TheVariants.{Opcode}
use Rattle.execute.specs.ForCode.{Performed, performed, column_length, instruction_at, left_with}
use Rattle.operands.specs.ForCode.{two_in, no_operands, columns, column_at}

-- what the map has at an opcode, and the opcode's length: with both in one, an arm has one thing to compute
pub record Cell : Type 0 where
  pub entry : Option Kind
  pub size : ℕ

abbrev pub cell : Option Kind → ℕ → Cell
cell e n = record { entry = e; size = n }

abbrev pub cell_of : ℕ → Cell
cell_of op = cell (entry_of op) (length_of op)

-- the opcode is of kind k, and as long as those of its column
abbrev pub Is : ℕ → Kind → Type 0
Is op k = cell (Some k) (column_length (lower op)) ≡ cell_of op

-- the n rows from i have in the m columns from j a kind that is f of the column
abbrev pub Throughout : ℕ → ℕ → ℕ → ℕ → (ℕ → Kind) → Type 0
Throughout i n j m f = part i n j m (λ hi lo. cell (Some (f lo)) (column_length lo)) ≡ part i n j m (λ hi lo. cell_of (hi * 16 + lo))

pub in_area : (op : ℕ) (f : ℕ → Kind) (i n j m : ℕ) → (i ≤ upper op) × (upper op < i + n) → (j ≤ lower op) × (lower op < j + m)
    → Throughout i n j m f → Is op (f (lower op))
in_area op f i n j m u l e = in_part (λ hi lo. cell (Some (f lo)) (column_length lo)) cell_of i n j m op u l e

pub at_opcode : (op c : ℕ) (k : Kind) → op ≡ c → Is c k → Is op k
at_opcode op c k e h = rw e h

module _ (p : Pins) (image mem : List ℕ) (n : Machine) (pc : ℕ) (i : Code) where
  -- an instruction of kind k, its deed done
  abbrev pub doing : Kind → Performed
  doing k =
      let d = deed_of p image mem n k i in
      performed (done_of p n d).machine (stored_in n.kind mem (done_of p n d).stores) (cost_of k (outcome_of n d))

  next_is : n.pc ≡ plus pc (length_of i.op) → next_of (with_pc n pc) i ≡ n
  unfolding with_pc
  next_is h = rw (← h)

  pub done_is : (k : Kind) → Some k ≡ entry_of i.op → n.pc ≡ plus pc (length_of i.op) → doing k ≡ instruction_at p image mem n pc i
  unfolding instruction_at execute_as perform_of
  done_is k e h = rw (← e, next_is h, cycles_by_kind i.op _ (sym e))

  pub kind_is : (k : Kind) → n.pc ≡ plus pc (column_length (lower i.op)) → Is i.op k → doing k ≡ instruction_at p image mem n pc i
  kind_is k h e = done_is k (ap (λ (c : Cell). c.entry) e) (h ∙ ap (λ (c : Cell). plus pc c.size) e)

  -- a blank area: the machine as before
  pub blank_is_refused : None ≡ entry_of i.op → left_with (with_pc n pc) mem (Err Opcode) ≡ instruction_at p image mem n pc i
  unfolding instruction_at execute_as stored_in
  blank_is_refused e = rw (← e)

  -- where the program counter stood meanwhile is nothing to it
  pub from_elsewhere : (q : ℕ) → instruction_at p image mem (with_pc n q) pc i ≡ instruction_at p image mem n pc i
  unfolding instruction_at with_pc
  from_elsewhere q = refl

-- what the columns say, by the modes that the map has in them
pub first_is : (p : Pins) (n : Machine) (i : Code) → lower i.op < 2 → (column_at p n i).dst ≡ one_at p n (one_mode (lower i.op)) i
unfolding column_at
first_is p n i h = agree (λ lo. (get_or (columns p n i) lo no_operands).dst) (λ lo. one_at p n (one_mode lo) i) 2 refl (lower i.op) h

pub middle_is : (p : Pins) (n : Machine) (i : Code) → 2 ≤ lower i.op → lower i.op < 8 → column_at p n i ≡ two_in p n i (two_modes (lower i.op))
unfolding column_at
middle_is p n i l h =
    let w : 2 + (lower i.op - 2) ≡ lower i.op = omega arith in
    rw w at (agree (λ lo. get_or (columns p n i) (2 + lo) no_operands) (λ lo. two_in p n i (two_modes (2 + lo))) 6 refl (lower i.op - 2) (omega arith))
