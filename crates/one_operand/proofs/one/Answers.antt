use borrow.Author.Rules.{rules}
use mathlib.Core.Path.{refl}
use native.Mathlib.Omega.{arith}
use Rattle.word.specs.Fields.{upper}
use Rattle.word.proofs.Computed.{last}
use Rattle.machine.specs.State.{with_pc}
use Rattle.opcodes.specs.Map.{entry_of, opcode_map}
use Rattle.opcodes.specs.Instruction.{length_of}
use Rattle.opcodes.specs.declared.Unary.TheVariants as unary
use Rattle.opcodes.specs.declared.Paired.TheVariants as paired
use Rattle.deeds.specs.Results.{unary_of, paired_of}
use Rattle.execute.specs.Doing.{popped}
use Rattle.one_operand.proofs.Arms.{unary_arm, paired_arm, clr_arm, da_arm, pop_arm, push_arm, jp_pair_arm, srp_arm}
use Rattle.one_operand.proofs.one.Goals as goal
use Rattle.one_operand.proofs.one.Goals.{After-com, Start}

pub returns-then-lo-eq0 : goal.returns-then-lo-eq0
unfolding with_pc
returns-then-lo-eq0 c image = rw c.read_pair-to.ensures (jp_pair_arm image _ c.requires (omega arith))

pub returns-in-0 : goal.returns-in-0
unfolding entry_of opcode_map length_of unary_of
returns-in-0 c image =
    rw (c.store.ensures, c.dec.ensures, c.read-was.ensures) (unary_arm image _ c.requires unary.Dec 0 c.in-0.is refl)

pub returns-in-1 : goal.returns-in-1
unfolding entry_of opcode_map length_of unary_of
returns-in-1 c image =
    rw (c.store-in-1.ensures, c.rlc.ensures, c.flags.ensures, c.read-was.ensures) (unary_arm image _ c.requires unary.Rlc 1 c.in-1.is refl)

pub returns-in-2 : goal.returns-in-2
unfolding entry_of opcode_map length_of unary_of
returns-in-2 c image =
    rw (c.store-in-2.ensures, c.inc.ensures, c.read-was.ensures) (unary_arm image _ c.requires unary.Inc 2 c.in-2.is refl)

pub returns-else-lo-eq0 : goal.returns-else-lo-eq0
returns-else-lo-eq0 c image = rw c.write.ensures (srp_arm image _ c.requires (omega arith))

pub returns-in-4 : goal.returns-in-4
returns-in-4 c image = rw c.da.ensures (da_arm image _ c.requires c.in-4.is)

pub returns-in-5 : goal.returns-in-5
unfolding popped
returns-in-5 c image =
    rw (c.write-in-5.ensures, c.raise.ensures, c.byte_at-v.ensures) (pop_arm image _ c.requires c.in-5.is)

pub returns-in-6 : goal.returns-in-6
unfolding entry_of opcode_map length_of unary_of
returns-in-6 c image =
    rw (c.store-in-6.ensures, (goal.at.returns-in-6 c).After-com.com.ensures, c.read-was.ensures) (unary_arm image _ c.requires unary.Com 6 c.in-6.is refl)

pub returns-in-7 : goal.returns-in-7
returns-in-7 c image =
    let left = rw c.read-was.ensures at c.push.ensures in
    rw (c.push_cycles-cycles.ensures, c.is_internal.ensures) (push_arm image _ c.requires c.in-7.is _ left)

pub returns-in-8 : goal.returns-in-8
unfolding entry_of opcode_map length_of paired_of
returns-in-8 c image =
    rw (c.store_word.ensures, c.decw.ensures, c.read_pair-pair.ensures) (paired_arm image _ c.requires paired.Decw 8 c.in-8.is refl)

pub returns-in-9 : goal.returns-in-9
unfolding entry_of opcode_map length_of unary_of
returns-in-9 c image =
    rw (c.store-in-9.ensures, c.rl.ensures, c.read-was.ensures) (unary_arm image _ c.requires unary.Rl 9 c.in-9.is refl)

pub returns-in-10 : goal.returns-in-10
unfolding entry_of opcode_map length_of paired_of
returns-in-10 c image =
    rw (c.store_word-in-10.ensures, c.incw.ensures, c.read_pair-pair-in-10.ensures) (paired_arm image _ c.requires paired.Incw 10 c.in-10.is refl)

pub returns-in-11 : goal.returns-in-11
returns-in-11 c image = rw c.write-in-11.ensures (clr_arm image _ c.requires c.in-11.is)

pub returns-in-12 : goal.returns-in-12
unfolding entry_of opcode_map length_of unary_of
returns-in-12 c image =
    rw (c.store-in-12.ensures, c.rrc.ensures, c.flags-in-12.ensures, c.read-was.ensures) (unary_arm image _ c.requires unary.Rrc 12 c.in-12.is refl)

pub returns-in-13 : goal.returns-in-13
unfolding entry_of opcode_map length_of unary_of
returns-in-13 c image =
    rw (c.store-in-13.ensures, c.sra.ensures, c.read-was.ensures) (unary_arm image _ c.requires unary.Sra 13 c.in-13.is refl)

pub returns-in-14 : goal.returns-in-14
unfolding entry_of opcode_map length_of unary_of
returns-in-14 c image =
    rw (c.store-in-14.ensures, c.rr.ensures, c.read-was.ensures) (unary_arm image _ c.requires unary.Rr 14 c.in-14.is refl)

pub returns-in_default : goal.returns-in_default
unfolding entry_of opcode_map length_of unary_of
returns-in_default c image =
    let row = last 0 15 (upper c.args.i.op) (omega arith) (search rules) c.in_default.in_default-own.rest in
    rw (c.store-in_default.ensures, c.swap.ensures, c.read-was.ensures) (unary_arm image _ c.requires unary.Swap 15 row refl)
