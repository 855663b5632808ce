-- Columns 8 to F: a law for each sort of arm; and what `perform` hands on.
use Rattle.std.specs.Prelude.{None}
use Rattle.std.proofs.Common.{◌≡◌, ℕ, ◌+◌, ◌*◌, ◌%◌, ◌<◌, ◌≤◌, Bool, false, not, eqb, List, get_or, refl, ap, ◌∙◌, arith}
use Rattle.word.specs.Fields.{upper, lower, word_of}
use Rattle.word.specs.Words.{plus, disp_of, moved_by}
use Rattle.word.proofs.Computed.{NoneOf, fails, else_passes}
use Rattle.alu.specs.FlagByte.{rcf_of, scf_of, ccf_of}
use Rattle.opcodes.specs.Map.{entry_of, opcode_map}
use Rattle.opcodes.specs.Instruction.{length_of, defined}
use Rattle.opcodes.specs.ForCode.{two_cost, jump_cost}
use Rattle.opcodes.specs.declared.Kind.{Kind}
use Rattle.opcodes.specs.declared.Kind.TheVariants.{Unary, Ccf, Di, Djnz, Ei, Iret, Jp, Jr, Ld, Nop, Rcf, Ret, Scf}
use Rattle.opcodes.specs.declared.Unary.TheVariants.{Inc}
use Rattle.opcodes.specs.declared.One.TheVariants.{Work}
use Rattle.opcodes.specs.declared.Two.{Two}
use Rattle.opcodes.specs.declared.Target.TheVariants.{Direct}
use Rattle.opcodes.proofs.Cells.{blank_is}
use Rattle.machine.specs.Names.{FLAGS}
use Rattle.machine.specs.State.{with_pc}
use Rattle.machine.specs.Registers.{read_reg, write_reg}
use Rattle.machine.specs.Memory.{stored_in}
use Rattle.machine.specs.declared.Machine.{Machine}
use Rattle.machine.specs.declared.Pins.{Pins}
use Rattle.deeds.specs.Modes.{flags_of, one_at, target_of}
use Rattle.deeds.specs.Results.{unary_of}
use Rattle.deeds.specs.Pages.{condition_of, deed_of, outcome_of, unary_deed, ld_deed, jp_deed, jr_deed, djnz_deed, ret_deed, iret_deed, rcf_deed, scf_deed, ccf_deed}
use Rattle.deeds.specs.declared.Code.{Code}
use Rattle.execute.specs.Doing.{done_of, stored_at, transferred, returned, interrupts_to, interrupts_enabled, interrupt_returned, jumped, looped}
use Rattle.execute.specs.ForCode.{Performed, performed, column_length, instruction_at}
use Rattle.operands.specs.ForCode.{two_in, no_operands, columns, column_at, At}
use Rattle.operands.specs.declared.Operands.{Operands}
use Rattle.operands.proofs.Arms.{Is, Throughout, in_area, at_opcode, doing, kind_is, from_elsewhere}

-- what `operands` leaves is what the functions of the columns require
pub at_next : {lo hi : ℕ} {p : Pins} {n : Machine} {pc : ℕ} {i : Code} {o : Operands} (m : Machine) → lo ≤ lower i.op → lower i.op < hi
    → n ≡ with_pc m (plus pc (column_length (lower i.op))) → o ≡ column_at p n i → At lo hi p n pc i o
unfolding with_pc
at_next m l h e f = record { low = l; high = h; next = ap (λ (m : Machine). m.pc) e; is = f }

-- and of one column
pub in_column : {p : Pins} {n : Machine} {pc : ℕ} {i : Code} {o : Operands} (k : ℕ) (m : Machine) → lower i.op ≡ k
    → (o ≡ column_at p n i) × (n ≡ with_pc m (plus pc (column_length (lower i.op)))) → At k (k + 1) p n pc i o
in_column k m l e = at_next m (omega arith) (omega arith) e.1 e.0

-- what it is at the next instruction, it is before
pub elsewhere : (p : Pins) (image mem : List ℕ) (n m : Machine) (q pc : ℕ) (i : Code) (x : Performed) → n ≡ with_pc m q
    → x ≡ instruction_at p image mem n pc i → x ≡ instruction_at p image mem m pc i
elsewhere p image mem n m q pc i x e h = h ∙ (ap (λ (o : Machine). instruction_at p image mem o pc i) e ∙ from_elsewhere p image mem m pc i q)

module _ {p : Pins} {n : Machine} {pc : ℕ} {i : Code} {o : Operands} (image mem : List ℕ) where
  -- a column of one kind in all sixteen rows, and what it says
  column_is : (c : ℕ) (k : Kind) → i.op < 256 → At c (c + 1) p n pc i o → Throughout 0 16 c 1 (λ lo. k) → doing p image mem n pc i k ≡ instruction_at p image mem n pc i
  column_is c k b m e = kind_is p image mem n pc i k m.next (in_area i.op (λ lo. k) 0 16 c 1 (omega arith) (m.low, m.high) e)

  says : (c : ℕ) → At c (c + 1) p n pc i o → o ≡ get_or (columns p n i) c no_operands
  unfolding column_at
  says c m =
      let l : lower i.op ≡ c = omega (arith, m.low, m.high) in
      rw l at m.is

  pub djnz_arm : i.op < 256 → At 10 11 p n pc i o → (v : ℕ) (t : Bool) → v ≡ (read_reg p n o.dst + 255) % 256 → not (eqb v 0) ≡ t
      → performed (jumped (write_reg n o.dst v) t (moved_by n.pc (disp_of o.src))) mem (jump_cost t) ≡ instruction_at p image mem n pc i
  unfolding entry_of opcode_map length_of one_at deed_of djnz_deed outcome_of done_of looped stored_in
  djnz_arm b m v t e f = rw (← f, e, says 10 m) (column_is 10 Djnz b m refl)

  pub jr_arm : i.op < 256 → At 11 12 p n pc i o → (t : Bool) → condition_of n i ≡ t
      → performed (jumped n t (moved_by n.pc (disp_of o.src))) mem (jump_cost t) ≡ instruction_at p image mem n pc i
  unfolding entry_of opcode_map length_of deed_of jr_deed outcome_of done_of stored_in
  jr_arm b m t f = rw (← f, says 11 m) (column_is 11 Jr b m refl)

  pub jp_arm : i.op < 256 → At 13 14 p n pc i o → (t : Bool) → condition_of n i ≡ t
      → performed (jumped n t (word_of i.first i.second)) mem (jump_cost t) ≡ instruction_at p image mem n pc i
  unfolding entry_of opcode_map length_of deed_of jp_deed target_of outcome_of done_of stored_in
  jp_arm b m t f = rw (← f) (column_is 13 (Jp Direct) b m refl)

  pub ld_column : i.op < 256 → (w : Two) (c : ℕ) → At c (c + 1) p n pc i o → get_or (columns p n i) c no_operands ≡ two_in p n i w
      → Throughout 0 16 c 1 (λ lo. Ld w) → performed (write_reg n o.dst o.src) mem (two_cost w) ≡ instruction_at p image mem n pc i
  unfolding deed_of ld_deed outcome_of done_of transferred stored_in
  ld_column b w c m e f = rw (says c m, e) (column_is c (Ld w) b m f)

  pub inc_column : i.op < 256 → At 14 15 p n pc i o → performed (stored_at n o.dst (unary_of Inc (read_reg p n o.dst) (flags_of n))) mem 6 ≡ instruction_at p image mem n pc i
  unfolding entry_of opcode_map length_of deed_of unary_deed outcome_of done_of stored_in
  inc_column b m = rw (says 14 m) (column_is 14 (Unary Inc Work) b m refl)

  -- column F, row by row
  alone_is : (row : ℕ) (k : Kind) → At 15 16 p n pc i o → upper i.op ≡ row → Is (row * 16 + 15) k → doing p image mem n pc i k ≡ instruction_at p image mem n pc i
  alone_is row k m u e = kind_is p image mem n pc i k m.next (at_opcode i.op (row * 16 + 15) k (omega (arith, m.low, m.high)) e)

  pub di_arm : At 15 16 p n pc i o → upper i.op ≡ 8 → performed (interrupts_to n false) mem 6 ≡ instruction_at p image mem n pc i
  unfolding entry_of opcode_map length_of deed_of outcome_of done_of stored_in
  di_arm m u = alone_is 8 Di m u refl

  pub ei_arm : At 15 16 p n pc i o → upper i.op ≡ 9 → performed (interrupts_enabled n) mem 6 ≡ instruction_at p image mem n pc i
  unfolding entry_of opcode_map length_of deed_of outcome_of done_of stored_in
  ei_arm m u = alone_is 9 Ei m u refl

  pub ret_arm : At 15 16 p n pc i o → upper i.op ≡ 10 → performed (done_of p n (ret_deed p mem n)).machine mem 14 ≡ instruction_at p image mem n pc i
  unfolding entry_of opcode_map length_of deed_of outcome_of done_of stored_in ret_deed returned
  ret_arm m u = alone_is 10 Ret m u refl

  pub iret_arm : At 15 16 p n pc i o → upper i.op ≡ 11 → performed (done_of p n (iret_deed p mem n)).machine mem 16 ≡ instruction_at p image mem n pc i
  unfolding entry_of opcode_map length_of deed_of outcome_of done_of stored_in iret_deed interrupt_returned
  iret_arm m u = alone_is 11 Iret m u refl

  pub rcf_arm : At 15 16 p n pc i o → upper i.op ≡ 12 → performed (write_reg n FLAGS (rcf_of (flags_of n))) mem 6 ≡ instruction_at p image mem n pc i
  unfolding entry_of opcode_map length_of deed_of outcome_of done_of stored_in rcf_deed transferred
  rcf_arm m u = alone_is 12 Rcf m u refl

  pub scf_arm : At 15 16 p n pc i o → upper i.op ≡ 13 → performed (write_reg n FLAGS (scf_of (flags_of n))) mem 6 ≡ instruction_at p image mem n pc i
  unfolding entry_of opcode_map length_of deed_of outcome_of done_of stored_in scf_deed transferred
  scf_arm m u = alone_is 13 Scf m u refl

  pub ccf_arm : At 15 16 p n pc i o → upper i.op ≡ 14 → performed (write_reg n FLAGS (ccf_of (flags_of n))) mem 6 ≡ instruction_at p image mem n pc i
  unfolding entry_of opcode_map length_of deed_of outcome_of done_of stored_in ccf_deed transferred
  ccf_arm m u = alone_is 14 Ccf m u refl

  pub nop_arm : At 15 16 p n pc i o → upper i.op ≡ 15 → performed n mem 6 ≡ instruction_at p image mem n pc i
  unfolding entry_of opcode_map length_of deed_of outcome_of done_of stored_in
  nop_arm m u = alone_is 15 Nop m u refl

-- and where it is blank
pub alone_blank : (op : ℕ) → op < 256 → lower op ≡ 15 → NoneOf (upper op) (fails (λ hi. not (defined (entry_of (hi * 16 + 15)))) 16) → None ≡ entry_of op
alone_blank op h l d =
    let w : upper op * 16 + 15 ≡ op = omega arith in
    blank_is (entry_of op) (rw w at (else_passes (λ hi. not (defined (entry_of (hi * 16 + 15)))) 16 (upper op) (omega arith) d))
