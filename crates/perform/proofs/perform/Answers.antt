use Rattle.std.proofs.Common.{◌≡◌, ◌<◌, refl, arith, rules}
use Rattle.opcodes.specs.Map.{entry_of, opcode_map}
use Rattle.opcodes.specs.Instruction.{length_of}
use Rattle.opcodes.specs.declared.Two.TheVariants.{WorkReg, RegWork, WorkImm}
use Rattle.deeds.specs.Results.{unary_of}
use Rattle.perform.proofs.Arms.{at_next, in_column, elsewhere, ld_column, inc_column}
use Rattle.word.specs.Fields.{lower}
use Rattle.perform.proofs.perform.Goals as goal

pub djnz-requires : goal.djnz-requires
djnz-requires c =
    in_column 10 _ c.in-10.is (c.operands-o.ensures.value, c.operands-o.ensures.next)

pub jr-requires : goal.jr-requires
jr-requires c =
    in_column 11 _ c.in-11.is (c.operands-o.ensures.value, c.operands-o.ensures.next)

pub jp-requires : goal.jp-requires
jp-requires c =
    in_column 13 _ c.in-13.is (c.operands-o.ensures.value, c.operands-o.ensures.next)

pub one-requires : goal.one-requires
one-requires c =
    at_next _ (omega arith) (omega arith) c.operands-o.ensures.next c.operands-o.ensures.value

pub two-requires : goal.two-requires
two-requires c =
    at_next _ (omega arith) (omega arith) c.operands-o.ensures.next c.operands-o.ensures.value

pub alone-requires : goal.alone-requires
alone-requires c =
    let low = lower c.args.i.op in
    let high : low < 16 = search rules in
    let column : low ≡ 15 = omega (arith, high) in
    in_column 15 _ column (c.operands-o.ensures.value, c.operands-o.ensures.next)

pub returns-in-10 : goal.returns-in-10
returns-in-10 c = elsewhere _ _ _ _ _ _ _ _ _ c.operands-o.ensures.next (c.djnz.ensures _ _)

pub returns-in-11 : goal.returns-in-11
returns-in-11 c = elsewhere _ _ _ _ _ _ _ _ _ c.operands-o.ensures.next (c.jr.ensures _ _)

pub returns-in-13 : goal.returns-in-13
returns-in-13 c = elsewhere _ _ _ _ _ _ _ _ _ c.operands-o.ensures.next (c.jp.ensures _ _)

pub returns-in-14 : goal.returns-in-14
unfolding unary_of
returns-in-14 c =
    let asked = in_column 14 _ c.in-14.is (c.operands-o.ensures.value, c.operands-o.ensures.next) in
    elsewhere _ _ _ _ _ _ _ _ _ c.operands-o.ensures.next (rw (c.store.ensures, c.inc.ensures, c.read-was.ensures) (inc_column _ _ (search rules) asked))

pub returns-in-0 : goal.returns-in-0
returns-in-0 c = elsewhere _ _ _ _ _ _ _ _ _ c.operands-o.ensures.next (c.one.ensures _)

pub returns-in-2 : goal.returns-in-2
returns-in-2 c = elsewhere _ _ _ _ _ _ _ _ _ c.operands-o.ensures.next c.two.ensures

pub returns-in_default : goal.returns-in_default
returns-in_default c = elsewhere _ _ _ _ _ _ _ _ _ c.operands-o.ensures.next (c.alone.ensures _)

pub returns-in-8 : goal.returns-in-8
unfolding entry_of opcode_map length_of
returns-in-8 c =
    let asked = in_column 8 _ c.in-8.is (c.operands-o.ensures.value, c.operands-o.ensures.next) in
    elsewhere _ _ _ _ _ _ _ _ _ c.operands-o.ensures.next (rw c.write.ensures (ld_column _ _ (search rules) WorkReg 8 asked refl refl))

pub returns-in-9 : goal.returns-in-9
unfolding entry_of opcode_map length_of
returns-in-9 c =
    let asked = in_column 9 _ c.in-9.is (c.operands-o.ensures.value, c.operands-o.ensures.next) in
    elsewhere _ _ _ _ _ _ _ _ _ c.operands-o.ensures.next (rw c.write-in-9.ensures (ld_column _ _ (search rules) RegWork 9 asked refl refl))

pub returns-in-12 : goal.returns-in-12
unfolding entry_of opcode_map length_of
returns-in-12 c =
    let asked = in_column 12 _ c.in-12.is (c.operands-o.ensures.value, c.operands-o.ensures.next) in
    elsewhere _ _ _ _ _ _ _ _ _ c.operands-o.ensures.next (rw c.write-in-12.ensures (ld_column _ _ (search rules) WorkImm 12 asked refl refl))
