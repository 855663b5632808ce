use Rattle.std.proofs.Common.{◌≡◌, ℕ, ◌<◌, ◌≤◌, ◌∙◌, arith, le-ltb, lt-ltb, ne_eqb, le-leb}
use borrow.Author.Tests.{lt-leb}
use Rattle.machine.specs.State.{held}
use Rattle.machine.specs.Registers.{read_reg, read_port}
use Rattle.machine.specs.declared.Machine.{Machine}
use Rattle.machine.specs.declared.Pins.{Pins}
use Rattle.machine.proofs.Ranges.{hole_reads, general_reads}
use Rattle.registers.proofs.read_any.Goals as goal
use Rattle.registers.proofs.read_any.Goals.{in_default-via-then-a-lt128, in_default-via-else-a-lt128+else-a-lt241+then-a-lt242, in_default-via-else-a-lt128+else-a-lt241+else-a-lt242+else-a-lt250}

hidden : (p : Pins) (m : Machine) (a : ℕ) → 0xF5 ≤ a → a ≤ 0xF9 → 0xFF ≡ read_reg p m a
unfolding read_reg
hidden p m a h k =
    let low : 0x04 ≤ a = omega arith in
    let top : 0xF0 < a = omega arith in
    let n3 : a ≡ 0xF3 → ⊥ = omega arith in
    let from : 0x80 ≤ a = omega arith in
    simp (le-ltb, lt-leb, ne_eqb, le-leb)

port : (p : Pins) (m : Machine) (a : ℕ) → a < 0x04 → read_port p m a ≡ read_reg p m a
unfolding read_reg
port p m a h = simp lt-ltb

tmr : (p : Pins) (m : Machine) (a : ℕ) → a ≡ 0xF1 → held m a ≡ read_reg p m a
unfolding read_reg
tmr p m a e = rw e

control : (p : Pins) (m : Machine) (a : ℕ) → 0xF9 < a → (a ≡ 0xFB → ⊥) → held m a ≡ read_reg p m a
unfolding read_reg
control p m a h nb =
    let low : 0x04 ≤ a = omega arith in
    let top : 0xF0 < a = omega arith in
    let from : 0x80 ≤ a = omega arith in
    let l5 : 0xF5 ≤ a = omega arith in
    let n2 : a ≡ 0xF2 → ⊥ = omega arith in
    let n3 : a ≡ 0xF3 → ⊥ = omega arith in
    let n4 : a ≡ 0xF4 → ⊥ = omega arith in
    simp (le-ltb, lt-leb, le-leb, ne_eqb)

pub returns-in-242 : goal.returns-in-242
unfolding read_reg
returns-in-242 c = rw (c.counter.ensures, c.in-242.is)

pub returns-in-243 : goal.returns-in-243
unfolding read_reg
returns-in-243 c = rw c.in-243.is

pub returns-in-244 : goal.returns-in-244
unfolding read_reg
returns-in-244 c = rw (c.counter-in-244.ensures, c.in-244.is)

pub returns-in-251 : goal.returns-in-251
unfolding read_reg
returns-in-251 c = rw (c.held.ensures, c.in-251.is)

pub returns-in-0-to-3 : goal.returns-in-0-to-3
returns-in-0-to-3 c = c.read_port.ensures ∙ port _ _ _ (omega arith)

pub returns-in-128-to-240 : goal.returns-in-128-to-240
returns-in-128-to-240 c = c.read_hole.ensures ∙ hole_reads _ _ _ (omega arith) (omega arith)

pub returns-in-245-to-249 : goal.returns-in-245-to-249
returns-in-245-to-249 c = hidden _ _ _ (omega arith) (omega arith)

pub returns-in_default : goal.returns-in_default
returns-in_default c =
    c.held-in_default.ensures ∙ elim c.in_default.branch [
      | in_default-via-then-a-lt128 w ↦ general_reads _ _ _ (omega arith) (omega arith)
      | in_default-via-else-a-lt128+else-a-lt241+then-a-lt242 w ↦ tmr _ _ _ (omega arith)
      | in_default-via-else-a-lt128+else-a-lt241+else-a-lt242+else-a-lt250 w ↦ control _ _ _ (omega arith) (omega arith)
    ]
