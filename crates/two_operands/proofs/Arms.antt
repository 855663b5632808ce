-- Columns 2 to 7: a law for each sort of arm.
use mathlib.Core.Path.{◌≡◌, refl, ◌∙◌}
use mathlib.Core.List.{List}
use Prim.Native.Nat.{ℕ, ◌≤◌, ◌<◌, ◌+◌}
use native.Mathlib.Omega.{arith}
use Rattle.word.specs.Fields.{upper, lower}
use Rattle.opcodes.specs.Map.{entry_of, opcode_map}
use Rattle.opcodes.specs.Instruction.{length_of}
use Rattle.opcodes.specs.ForCode.{two_modes}
use Rattle.opcodes.specs.declared.Kind.{Kind}
use Rattle.opcodes.specs.declared.Kind.TheVariants.{Binary, Test, Ld}
use Rattle.opcodes.specs.declared.Binary as binary
use Rattle.opcodes.specs.declared.Test as test
use Rattle.opcodes.specs.declared.Two.{Two}
use Rattle.machine.specs.Registers.{read_reg, write_reg}
use Rattle.machine.specs.Memory.{stored_in}
use Rattle.machine.specs.declared.Machine.{Machine}
use Rattle.machine.specs.declared.Pins.{Pins}
use Rattle.deeds.specs.Modes.{flags_of}
use Rattle.deeds.specs.Results.{binary_of, test_of}
use Rattle.deeds.specs.Pages.{deed_of, outcome_of, binary_deed, test_deed, ld_deed}
use Rattle.deeds.specs.declared.Code.{Code}
use Rattle.execute.specs.Doing.{done_of, stored_at, flagged, transferred}
use Rattle.execute.specs.ForCode.{Performed, performed, instruction_at}
use Rattle.operands.specs.ForCode.{two_in, At}
use Rattle.operands.specs.declared.Operands.{Operands}
use Rattle.operands.proofs.Arms.{Throughout, in_area, doing, kind_is, middle_is}

-- a row that has the modes of n columns from j on
abbrev pub Row : ℕ → ℕ → ℕ → (Two → Kind) → Type 0
Row row j n f = Throughout row 1 j n (λ lo. f (two_modes lo))

module _ {p : Pins} {n : Machine} {pc : ℕ} {i : Code} {o : Operands} (image mem : List ℕ) (m : At 2 8 p n pc i o) where
  abbrev This : Performed → Type 0
  This x = x ≡ instruction_at p image mem n pc i

  column_is : o ≡ two_in p n i (two_modes (lower i.op))
  column_is = m.is ∙ middle_is p n i m.low m.high

  row_is : (f : Two → Kind) (row j c : ℕ) → upper i.op ≡ row → (j ≤ lower i.op) × (lower i.op < j + c) → Row row j c f
      → This (doing p image mem n pc i (f (two_modes (lower i.op))))
  row_is f row j c u l e = kind_is p image mem n pc i _ m.next (in_area i.op (λ lo. f (two_modes lo)) row 1 j c (omega arith) l e)

  pub binary_arm : (b : binary.Binary) (row : ℕ) → upper i.op ≡ row → Row row 2 6 (Binary b)
      → This (performed (stored_at n o.dst (binary_of b (read_reg p n o.dst) o.src (flags_of n))) mem o.cycles)
  unfolding deed_of binary_deed outcome_of done_of stored_in
  binary_arm b row u e = rw column_is (row_is (Binary b) row 2 6 u (m.low, m.high) e)

  pub test_arm : (t : test.Test) (row : ℕ) → upper i.op ≡ row → Row row 2 6 (Test t)
      → This (performed (flagged n (test_of t (read_reg p n o.dst) o.src)) mem o.cycles)
  unfolding deed_of test_deed outcome_of done_of stored_in
  test_arm t row u e = rw column_is (row_is (Test t) row 2 6 u (m.low, m.high) e)

  -- LD has no E2
  pub ld_arm : upper i.op ≡ 14 → 3 ≤ lower i.op → This (performed (write_reg n o.dst o.src) mem o.cycles)
  unfolding entry_of opcode_map length_of deed_of ld_deed outcome_of done_of transferred stored_in
  ld_arm u l = rw column_is (row_is Ld 14 3 5 u (l, m.high) refl)
