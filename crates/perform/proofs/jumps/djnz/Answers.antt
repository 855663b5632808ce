use Rattle.std.proofs.Common.{ℕ, ◌+◌, ◌%◌, true, false, not, ap, rules, eq-eqb, ne_eqb}
use Rattle.machine.specs.State.{with_pc}
use Rattle.execute.specs.Doing.{jumped}
use Rattle.perform.proofs.Arms.{djnz_arm}
use Rattle.perform.proofs.jumps.djnz.Goals as goal

pub returns-then-less-ne0 : goal.returns-then-less-ne0
unfolding jumped with_pc
returns-then-less-ne0 c image mem =
    let less_is = ap (λ (x : ℕ). (x + 255) % 256) c.read-less.ensures in
    let more = ap not (ne_eqb _ 0 c.if-less-ne0.true) in
    rw (c.moved-m.ensures, c.write.ensures) (djnz_arm image mem (search rules) c.requires _ true less_is more)

pub returns : goal.returns
unfolding jumped
returns c image mem =
    let less_is = ap (λ (x : ℕ). (x + 255) % 256) c.read-less.ensures in
    let none = ap not (eq-eqb _ 0 c.if-less-ne0.false) in
    rw c.write.ensures (djnz_arm image mem (search rules) c.requires _ false less_is none)
