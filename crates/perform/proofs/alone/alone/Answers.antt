use Rattle.std.proofs.Common.{◌≡◌, arith, rules}
use Rattle.word.specs.Fields.{lower}
use Rattle.opcodes.specs.Map.{entry_of, opcode_map}
use Rattle.operands.proofs.Arms.{blank_is_refused}
use Rattle.perform.proofs.Arms.{alone_blank}
use Rattle.perform.proofs.Arms.{di_arm, ei_arm, ret_arm, iret_arm, rcf_arm, scf_arm, ccf_arm, nop_arm}
use Rattle.perform.proofs.alone.alone.Goals as goal

pub returns-in-8 : goal.returns-in-8
returns-in-8 c image = rw c.interrupts.ensures (di_arm image _ c.requires c.in-8.is)

pub returns-in-9 : goal.returns-in-9
returns-in-9 c image = rw c.enable_interrupts.ensures (ei_arm image _ c.requires c.in-9.is)

pub returns-in-10 : goal.returns-in-10
returns-in-10 c image = rw c.ret.ensures (ret_arm image _ c.requires c.in-10.is)

pub returns-in-11 : goal.returns-in-11
returns-in-11 c image = rw c.iret.ensures (iret_arm image _ c.requires c.in-11.is)

pub returns-in-12 : goal.returns-in-12
returns-in-12 c image =
    rw (c.write.ensures, c.rcf.ensures, c.flags.ensures) (rcf_arm image _ c.requires c.in-12.is)

pub returns-in-13 : goal.returns-in-13
returns-in-13 c image =
    rw (c.write-in-13.ensures, c.scf.ensures, c.flags-in-13.ensures) (scf_arm image _ c.requires c.in-13.is)

pub returns-in-14 : goal.returns-in-14
returns-in-14 c image =
    rw (c.write-in-14.ensures, c.ccf.ensures, c.flags-in-14.ensures) (ccf_arm image _ c.requires c.in-14.is)

pub returns-in-15 : goal.returns-in-15
returns-in-15 c image = nop_arm image _ c.requires c.in-15.is

pub returns-in_default : goal.returns-in_default
unfolding entry_of opcode_map
returns-in_default c image =
    let column : lower c.args.i.op ≡ 15 = omega (arith, c.requires.low, c.requires.high) in
    rw (c.refused.ensures.value, c.refused.ensures.back)
    (blank_is_refused _ image _ _ _ _ (alone_blank c.args.i.op (search rules) column c.in_default.in_default-own.rest))
