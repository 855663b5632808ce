-- Columns 0 and 1: a law for each sort of arm.
use mathlib.Core.Path.{◌≡◌, refl, ◌∙◌, ap}
use mathlib.Core.List.{List}
use Rattle.std.proofs.Common.{Option, Some, None}
use Prim.Native.Nat.{ℕ}
use native.Mathlib.Omega.{arith}
use Rattle.word.specs.Fields.{upper, lower}
use Rattle.alu.specs.Decimal.{da_of}
use Rattle.alu.specs.declared.Outcome.{Outcome}
use Rattle.opcodes.specs.Map.{entry_of, opcode_map}
use Rattle.opcodes.specs.Instruction.{length_of}
use Rattle.opcodes.specs.ForCode.{one_mode, unary_cost, push_cost}
use Rattle.opcodes.specs.declared.Kind.{Kind}
use Rattle.opcodes.specs.declared.Kind.TheVariants.{Unary, Paired, Clr, Da, Jp, Pop, Push, Srp}
use Rattle.opcodes.specs.declared.Unary as unary
use Rattle.opcodes.specs.declared.Paired as paired
use Rattle.opcodes.specs.declared.One.{One}
use Rattle.opcodes.specs.declared.Target.TheVariants.{Pair}
use Rattle.machine.specs.State.{with_pc}
use Rattle.machine.specs.Registers.{read_reg, write_reg}
use Rattle.machine.specs.Addresses.{read_pair}
use Rattle.machine.specs.Memory.{stored_in}
use Rattle.machine.specs.Stack.{is_internal, pushed, stack_byte}
use Rattle.machine.specs.declared.Machine.{Machine}
use Rattle.machine.specs.declared.Pins.{Pins}
use Rattle.machine.specs.declared.Bytes.TheVariants as bytes
use Rattle.machine.specs.ForCode.{Left, stacked}
use Rattle.deeds.specs.Modes.{flags_of, one_at, target_of}
use Rattle.deeds.specs.Results.{unary_of, paired_of}
use Rattle.deeds.specs.Pages.{deed_of, outcome_of, unary_deed, paired_deed, clr_deed, da_deed, adjust_deed, pop_deed, push_deed, jp_deed}
use Rattle.deeds.specs.declared.Code.{Code}
use Rattle.execute.specs.Doing.{done_of, stored_at, word_stored_at, transferred, popped, jumped}
use Rattle.execute.specs.ForCode.{Performed, performed, instruction_at}
use Rattle.operands.specs.ForCode.{At}
use Rattle.operands.specs.declared.Operands.{Operands}
use Rattle.operands.proofs.Arms.{Is, Throughout, in_area, at_opcode, doing, kind_is, first_is}

-- a row that has both modes
abbrev pub Both : ℕ → (One → Kind) → Type 0
Both row f = Throughout row 1 0 2 (λ lo. f (one_mode lo))

adjust_stores : (p : Pins) (n : Machine) (dst : ℕ) (x : Option (Outcome ℕ)) → (done_of p n (adjust_deed dst x)).stores ≡ None
unfolding done_of adjust_deed
adjust_stores p n dst (Some o) = refl
adjust_stores p n dst None = refl

module _ {p : Pins} {n : Machine} {pc : ℕ} {i : Code} {o : Operands} (image mem : List ℕ) (m : At 0 2 p n pc i o) where
  abbrev This : Performed → Type 0
  This x = x ≡ instruction_at p image mem n pc i

  dst_is : o.dst ≡ one_at p n (one_mode (lower i.op)) i
  dst_is = ap (λ (o : Operands). o.dst) m.is ∙ first_is p n i m.high

  row_is : (f : One → Kind) (row : ℕ) → upper i.op ≡ row → Both row f → This (doing p image mem n pc i (f (one_mode (lower i.op))))
  row_is f row u e = kind_is p image mem n pc i _ m.next (in_area i.op (λ lo. f (one_mode lo)) row 1 0 2 (omega arith) (m.low, m.high) e)

  opcode_is : (c : ℕ) (k : Kind) → i.op ≡ c → Is c k → This (doing p image mem n pc i k)
  opcode_is c k h e = kind_is p image mem n pc i k m.next (at_opcode i.op c k h e)

  pub unary_arm : (u : unary.Unary) (row : ℕ) → upper i.op ≡ row → Both row (Unary u)
      → This (performed (stored_at n o.dst (unary_of u (read_reg p n o.dst) (flags_of n))) mem (unary_cost u))
  unfolding deed_of unary_deed outcome_of done_of stored_in
  unary_arm u row h e = rw dst_is (row_is (Unary u) row h e)

  pub paired_arm : (d : paired.Paired) (row : ℕ) → upper i.op ≡ row → Both row (Paired d)
      → This (performed (word_stored_at n o.dst (paired_of d (read_pair p n o.dst))) mem 10)
  unfolding deed_of paired_deed outcome_of done_of stored_in
  paired_arm d row h e = rw dst_is (row_is (Paired d) row h e)

  pub clr_arm : upper i.op ≡ 11 → This (performed (write_reg n o.dst 0) mem 6)
  unfolding entry_of opcode_map length_of deed_of clr_deed outcome_of done_of transferred stored_in
  clr_arm h = rw dst_is (row_is Clr 11 h refl)

  pub da_arm : upper i.op ≡ 4 → This (performed (done_of p n (adjust_deed o.dst (da_of (read_reg p n o.dst) (flags_of n)))).machine mem 8)
  unfolding entry_of opcode_map length_of deed_of da_deed stored_in
  da_arm h =
      let a = one_at p n (one_mode (lower i.op)) i in
      rw dst_is (rw (adjust_stores p n a (da_of (read_reg p n a) (flags_of n))) at (row_is Da 4 h refl))

  pub pop_arm : upper i.op ≡ 5 → This (performed (popped n o.dst (stack_byte p n mem 0)) mem 10)
  unfolding entry_of opcode_map length_of deed_of pop_deed outcome_of done_of stored_in
  pop_arm h = rw dst_is (row_is Pop 5 h refl)

  -- from what is left when a push ends
  pub push_arm : upper i.op ≡ 7 → (l : Left) → l ≡ stacked n.kind mem (pushed n (bytes.One (read_reg p n o.dst)))
      → This (performed l.machine l.memory (push_cost (one_mode (lower i.op)) (is_internal n)))
  unfolding entry_of opcode_map length_of deed_of push_deed outcome_of done_of
  push_arm h l e = rw (e, dst_is) (row_is Push 7 h refl)

  pub jp_pair_arm : i.op ≡ 0x30 → This (performed (with_pc n (read_pair p n o.dst)) mem 8)
  unfolding entry_of opcode_map length_of deed_of jp_deed target_of one_at outcome_of done_of jumped stored_in
  jp_pair_arm h =
      let w : lower i.op ≡ 0 = omega arith in
      rw (dst_is, w) (opcode_is 0x30 (Jp Pair) h refl)

  pub srp_arm : i.op ≡ 0x31 → This (performed (write_reg n 0xFD i.first) mem 6)
  unfolding entry_of opcode_map length_of deed_of outcome_of done_of transferred stored_in
  srp_arm h = opcode_is 0x31 Srp h refl
