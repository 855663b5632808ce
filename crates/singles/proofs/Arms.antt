-- A law for each opcode of this room, and where it has none.
use mathlib.Core.Path.{◌≡◌, refl, ◌∙◌}
use mathlib.Core.Bool.{Bool, true, false, not, ◌&&◌, ◌||◌}
use mathlib.Core.List.{List}
use Prim.Native.Nat.{ℕ, ◌≤◌, ◌<◌}
use lib.Dec.{T, leb, ltb}
use borrow.Author.Tests.{le-leb, lt-ltb}
use Rattle.std.specs.Prelude.{None}
use Rattle.word.specs.Fields.{upper, lower, word_of}
use Rattle.word.specs.Words.{plus}
use Rattle.word.proofs.Computed.{NoneOf, fails, else_passes}
use Rattle.opcodes.specs.Map.{entry_of, opcode_map}
use Rattle.opcodes.specs.Instruction.{length_of, defined}
use Rattle.opcodes.specs.declared.Kind.{Kind}
use Rattle.opcodes.specs.declared.Kind.TheVariants.{Lde, Ldei, Ldc, Ldci, Ld, Call}
use Rattle.opcodes.specs.declared.Way.TheVariants.{In, Out}
use Rattle.opcodes.specs.declared.Two.TheVariants.{WorkIndexed, IndexedWork, IndWork, IndReg}
use Rattle.opcodes.specs.declared.Target.TheVariants.{Direct, Pair}
use Rattle.opcodes.proofs.Cells.{blank_is}
use Rattle.machine.specs.State.{with_pc}
use Rattle.machine.specs.Registers.{read_reg, write_reg}
use Rattle.machine.specs.Addresses.{register_at, indirect_at, working_indirect_at, indexed_at, read_pair}
use Rattle.machine.specs.Memory.{stored_in, data_byte, program_byte}
use Rattle.machine.specs.declared.Machine.{Machine}
use Rattle.machine.specs.declared.Pins.{Pins}
use Rattle.machine.specs.declared.Bytes.TheVariants as bytes
use Rattle.std.specs.Prelude.{Some, None}
use Rattle.machine.specs.ForCode.{Left, stacked}
use Rattle.deeds.specs.Modes.{upper_at, lower_at, operands_of, from_register, target_of}
use Rattle.deeds.specs.Pages.{deed_of, outcome_of, ld_deed, lde_deed, ldei_deed, ldc_deed, ldci_deed, call_deed, data_move, program_move}
use Rattle.deeds.specs.declared.Code.{Code}
use Rattle.execute.specs.Doing.{done_of, transferred, block_moved, counted_up, pair_counted_up, called}
use Rattle.execute.specs.ForCode.{Performed, performed, instruction_at}
use Rattle.operands.proofs.Arms.{Is, at_opcode, doing, done_is, kind_is, from_elsewhere}
use Rattle.singles.specs.ForCode.{single_row, Single}

-- what is known before the match: what was asked for, the register r and the pair rr that the nibbles of the second byte name, and where the pair points
pub record Ready (p : Pins) (n : Machine) (pc : ℕ) (i : Code) (r rr a : ℕ) : Type 0 where
  pub asked : Single n pc i
  pub register : r ≡ upper_at n i.first
  pub pair : rr ≡ lower_at n i.first
  pub pointed : a ≡ read_pair p n rr

module _ {p : Pins} (image mem : List ℕ) {n : Machine} {pc : ℕ} {i : Code} {r rr a : ℕ} (m : Ready p n pc i r rr a) where
  opcode_is : (c : ℕ) (k : Kind) → i.op ≡ c → Is c k → doing p image mem n pc i k ≡ instruction_at p image mem n pc i
  opcode_is c k h e = kind_is p image mem n pc i k m.asked.next (at_opcode i.op c k h e)

  -- one added to the register and to the pair
  abbrev counted : Machine → Machine
  counted x = pair_counted_up p (counted_up p x r) rr

  -- a byte stored in data memory, to where the pair points
  abbrev memory_with : ℕ → List ℕ
  memory_with v = stored_in n.kind mem (Some (a, bytes.One v))

  abbrev This : Performed → Type 0
  This x = x ≡ instruction_at p image mem n pc i

  pub lde_in : i.op ≡ 0x82 → This (performed (write_reg n r (data_byte n.kind mem a)) mem 12)
  unfolding entry_of opcode_map length_of deed_of outcome_of done_of lde_deed data_move transferred stored_in
  lde_in h = rw (m.pointed, m.pair, m.register) (opcode_is 0x82 (Lde In) h refl)

  pub ldei_in : i.op ≡ 0x83 → This (performed (counted (write_reg n (read_reg p n r) (data_byte n.kind mem a))) mem 18)
  unfolding entry_of opcode_map length_of deed_of outcome_of done_of ldei_deed data_move block_moved transferred stored_in working_indirect_at
  ldei_in h = rw (m.pointed, m.pair, m.register) (opcode_is 0x83 (Ldei In) h refl)

  pub lde_out : i.op ≡ 0x92 → This (performed n (memory_with (read_reg p n r)) 12)
  unfolding entry_of opcode_map length_of deed_of outcome_of done_of lde_deed data_move transferred
  lde_out h = rw (m.pointed, m.pair, m.register) (opcode_is 0x92 (Lde Out) h refl)

  pub ldei_out : i.op ≡ 0x93 → This (performed (counted n) (memory_with (read_reg p n (read_reg p n r))) 18)
  unfolding entry_of opcode_map length_of deed_of outcome_of done_of ldei_deed data_move block_moved transferred working_indirect_at
  ldei_out h = rw (m.pointed, m.pair, m.register) (opcode_is 0x93 (Ldei Out) h refl)

  pub ldc_in : i.op ≡ 0xC2 → This (performed (write_reg n r (program_byte image a)) mem 12)
  unfolding entry_of opcode_map length_of deed_of outcome_of done_of ldc_deed program_move transferred stored_in
  ldc_in h = rw (m.pointed, m.pair, m.register) (opcode_is 0xC2 (Ldc In) h refl)

  pub ldci_in : i.op ≡ 0xC3 → This (performed (counted (write_reg n (read_reg p n r) (program_byte image a))) mem 18)
  unfolding entry_of opcode_map length_of deed_of outcome_of done_of ldci_deed program_move block_moved transferred stored_in working_indirect_at
  ldci_in h = rw (m.pointed, m.pair, m.register) (opcode_is 0xC3 (Ldci In) h refl)

  pub ld_from_index : i.op ≡ 0xC7 → This (performed (write_reg n r (read_reg p n (indexed_at p n i.second (lower i.first)))) mem 10)
  unfolding entry_of opcode_map length_of deed_of outcome_of done_of ld_deed operands_of from_register transferred stored_in
  ld_from_index h = rw m.register (opcode_is 0xC7 (Ld WorkIndexed) h refl)

  pub ldc_out : i.op ≡ 0xD2 → This (performed n mem 12)
  unfolding entry_of opcode_map length_of deed_of outcome_of done_of ldc_deed program_move transferred stored_in
  ldc_out h = opcode_is 0xD2 (Ldc Out) h refl

  pub ldci_out : i.op ≡ 0xD3 → This (performed (counted n) mem 18)
  unfolding entry_of opcode_map length_of deed_of outcome_of done_of ldci_deed program_move block_moved transferred stored_in
  ldci_out h = rw (m.pair, m.register) (opcode_is 0xD3 (Ldci Out) h refl)

  pub ld_to_index : i.op ≡ 0xD7 → This (performed (write_reg n (indexed_at p n i.second (lower i.first)) (read_reg p n r)) mem 10)
  unfolding entry_of opcode_map length_of deed_of outcome_of done_of ld_deed operands_of from_register transferred stored_in
  ld_to_index h = rw m.register (opcode_is 0xD7 (Ld IndexedWork) h refl)

  pub ld_ind_work : i.op ≡ 0xF3 → This (performed (write_reg n (read_reg p n r) (read_reg p n rr)) mem 6)
  unfolding entry_of opcode_map length_of deed_of outcome_of done_of ld_deed operands_of from_register transferred stored_in working_indirect_at
  ld_ind_work h = rw (m.pair, m.register) (opcode_is 0xF3 (Ld IndWork) h refl)

  pub ld_ind_reg : i.op ≡ 0xF5 → This (performed (write_reg n (indirect_at p n i.second) (read_reg p n (register_at n i.first))) mem 10)
  unfolding entry_of opcode_map length_of deed_of outcome_of done_of ld_deed operands_of from_register transferred stored_in
  ld_ind_reg h = opcode_is 0xF5 (Ld IndReg) h refl

  -- CALL, from what is left when `call` ends
  pub call_direct_arm : i.op ≡ 0xD6 → (l : Left) → l ≡ stacked n.kind mem (called n (word_of i.first i.second)) → This (performed l.machine l.memory 20)
  unfolding entry_of opcode_map length_of deed_of outcome_of done_of call_deed target_of
  call_direct_arm h l e = rw e (opcode_is 0xD6 (Call Direct) h refl)

  -- D4 is shorter than its column, so that the program counter stood elsewhere before
  pub call_pair_arm : i.op ≡ 0xD4 → (o : Machine) (l : Left) → o ≡ with_pc n (plus pc 2) → l ≡ stacked o.kind mem (called o (read_pair p o (register_at o i.first)))
      → This (performed l.machine l.memory 20)
  unfolding with_pc entry_of opcode_map length_of deed_of outcome_of done_of call_deed target_of
  call_pair_arm h o l f e =
      rw (e, f) (done_is p image mem (with_pc n (plus pc 2)) pc i (Call Pair) (rw h refl) (rw h refl) ∙ from_elsewhere p image mem n pc i (plus pc 2))

-- an opcode outside of this room's part of the map, or blank: it fails at this room's instructions alone
abbrev elsewhere_or_blank : ℕ → Bool
elsewhere_or_blank op = not (leb 2 (lower op) && (ltb (lower op) 8 && single_row (upper op))) || not (defined (entry_of op))

blank_there : (a b r d : Bool) → a ≡ true → b ≡ true → T r → T (not (a && (b && r)) || not d) → T (not d)
blank_there a b true d e f t h = rw (e, f) at h
blank_there a b false d e f t h = absurd t

pub single_blank : (op : ℕ) → op < 256 → 2 ≤ lower op → lower op < 8 → T (single_row (upper op)) → NoneOf op (fails elsewhere_or_blank 256) → None ≡ entry_of op
single_blank op h l u r d =
    blank_is (entry_of op)
    (blank_there _ _ (single_row (upper op)) (defined (entry_of op)) (le-leb 2 (lower op) l) (lt-ltb (lower op) 8 u) r (else_passes elsewhere_or_blank 256 op h d))
