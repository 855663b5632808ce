use borrow.Author.Rules.{rules}
use mathlib.Core.Path.{refl}
use native.Mathlib.Omega.{arith}
use Rattle.word.specs.Fields.{upper}
use Rattle.word.proofs.Computed.{else_passes}
use Rattle.opcodes.specs.Map.{entry_of, opcode_map}
use Rattle.opcodes.specs.Instruction.{length_of}
use Rattle.opcodes.specs.declared.Binary.TheVariants as binary
use Rattle.opcodes.specs.declared.Test.TheVariants as test
use Rattle.deeds.specs.Results.{binary_of, test_of}
use Rattle.singles.specs.ForCode.{single_row}
use Rattle.two_operands.proofs.Arms.{binary_arm, test_arm, ld_arm}
use Rattle.operands.proofs.Arms.{blank_is_refused}
use Rattle.two_operands.proofs.two.Goals as goal

pub returns-then-i-eq226 : goal.returns-then-i-eq226
unfolding entry_of opcode_map
returns-then-i-eq226 c = rw (c.refused.ensures.value, c.refused.ensures.back) (blank_is_refused _ _ _ _ _ _ (rw c.if-i-eq226.true refl))

pub singles-requires : goal.singles-requires
singles-requires c =
    let row = else_passes single_row 16 (upper c.args.i.op) (search rules) c.in_default.in_default-own.rest in
    record { low = c.requires.low; high = c.requires.high; next = c.requires.next; row = row }

pub returns-in-0 : goal.returns-in-0
unfolding entry_of opcode_map length_of binary_of
returns-in-0 c =
    rw (c.store.ensures, c.add.ensures, c.read-was.ensures) (binary_arm _ _ c.requires binary.Add 0 c.in-0.is refl)

pub returns-in-1 : goal.returns-in-1
unfolding entry_of opcode_map length_of binary_of
returns-in-1 c =
    rw (c.store-in-1.ensures, c.adc.ensures, c.flags.ensures, c.read-was.ensures) (binary_arm _ _ c.requires binary.Adc 1 c.in-1.is refl)

pub returns-in-2 : goal.returns-in-2
unfolding entry_of opcode_map length_of binary_of
returns-in-2 c =
    rw (c.store-in-2.ensures, c.sub.ensures, c.read-was.ensures) (binary_arm _ _ c.requires binary.Sub 2 c.in-2.is refl)

pub returns-in-3 : goal.returns-in-3
unfolding entry_of opcode_map length_of binary_of
returns-in-3 c =
    rw (c.store-in-3.ensures, c.sbc.ensures, c.flags-in-3.ensures, c.read-was.ensures) (binary_arm _ _ c.requires binary.Sbc 3 c.in-3.is refl)

pub returns-in-4 : goal.returns-in-4
unfolding entry_of opcode_map length_of binary_of
returns-in-4 c =
    rw (c.store-in-4.ensures, c.or.ensures, c.read-was.ensures) (binary_arm _ _ c.requires binary.Or 4 c.in-4.is refl)

pub returns-in-5 : goal.returns-in-5
unfolding entry_of opcode_map length_of binary_of
returns-in-5 c =
    rw (c.store-in-5.ensures, c.and.ensures, c.read-was.ensures) (binary_arm _ _ c.requires binary.And 5 c.in-5.is refl)

pub returns-in-6 : goal.returns-in-6
unfolding entry_of opcode_map length_of test_of
returns-in-6 c =
    rw (c.lay.ensures, c.tcm.ensures, c.read-was.ensures) (test_arm _ _ c.requires test.Tcm 6 c.in-6.is refl)

pub returns-in-7 : goal.returns-in-7
unfolding entry_of opcode_map length_of test_of
returns-in-7 c =
    rw (c.lay-in-7.ensures, c.tm.ensures, c.read-was.ensures) (test_arm _ _ c.requires test.Tm 7 c.in-7.is refl)

pub returns-in-10 : goal.returns-in-10
unfolding entry_of opcode_map length_of test_of
returns-in-10 c =
    rw (c.lay-in-10.ensures, c.cp.ensures, c.read-was.ensures) (test_arm _ _ c.requires test.Cp 10 c.in-10.is refl)

pub returns-in-11 : goal.returns-in-11
unfolding entry_of opcode_map length_of binary_of
returns-in-11 c =
    rw (c.store-in-11.ensures, c.xor.ensures, c.read-was.ensures) (binary_arm _ _ c.requires binary.Xor 11 c.in-11.is refl)

pub returns-else-i-eq226 : goal.returns-else-i-eq226
returns-else-i-eq226 c = rw c.write.ensures (ld_arm _ _ c.requires c.in-14.is (omega arith))
