use Rattle.std.proofs.Common.{true, false, sym, ◌∙◌, rules}
use Rattle.machine.specs.State.{with_pc}
use Rattle.execute.specs.Doing.{jumped}
use Rattle.perform.proofs.Arms.{jp_arm}
use Rattle.perform.proofs.jumps.jp.Goals as goal

pub returns-then-condition : goal.returns-then-condition
unfolding jumped with_pc
returns-then-condition c image mem =
    rw c.word-m.ensures (jp_arm image mem (search rules) c.requires true (sym c.condition.ensures ∙ c.if-condition.true))

pub returns : goal.returns
unfolding jumped
returns c image mem = jp_arm image mem (search rules) c.requires false (sym c.condition.ensures ∙ c.if-condition.false)
