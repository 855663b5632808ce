use Rattle.std.proofs.Common.{◌≡◌, ℕ, ◌<◌, ◌≤◌, ◌∙◌, arith, le-ltb, lt-ltb, ne_eqb, le-leb}
use borrow.Author.Tests.{lt-leb}
use Rattle.machine.specs.State.{placed}
use Rattle.machine.specs.Registers.{write_reg, write_port}
use Rattle.machine.specs.declared.Machine.{Machine}
use Rattle.machine.proofs.Ranges.{hole_stores, general_stores}
use Rattle.registers.proofs.write_any.Goals as goal
use Rattle.registers.proofs.write_any.Goals.{in_default-via-then-a-lt128, in_default-via-else-a-lt128+else-a-lt241}

port : (m : Machine) (a v : ℕ) → a < 0x04 → write_port m a v ≡ write_reg m a v
unfolding write_reg
port m a v h = simp lt-ltb

control : (m : Machine) (a v : ℕ) → 0xF0 < a → (a ≡ 0xF1 → ⊥) → (a ≡ 0xFA → ⊥) → (a ≡ 0xFD → ⊥) → placed m a v ≡ write_reg m a v
unfolding write_reg
control m a v h n1 na nd =
    let low : 0x04 ≤ a = omega arith in
    let from : 0x80 ≤ a = omega arith in
    simp (le-ltb, lt-leb, le-leb, ne_eqb)

pub returns-in-241 : goal.returns-in-241
unfolding write_reg
returns-in-241 c = c.write_tmr.ensures ∙ rw c.in-241.is

pub returns-in-250 : goal.returns-in-250
unfolding write_reg
returns-in-250 c = c.write_irq.ensures ∙ rw c.in-250.is

pub returns-in-253 : goal.returns-in-253
unfolding write_reg placed
returns-in-253 c = rw (c.place.ensures, c.in-253.is)

pub returns-in-0-to-3 : goal.returns-in-0-to-3
returns-in-0-to-3 c = c.write_port.ensures ∙ port _ _ _ (omega arith)

pub returns-in-128-to-240 : goal.returns-in-128-to-240
returns-in-128-to-240 c = c.write_hole.ensures ∙ hole_stores _ _ _ (omega arith) (omega arith)

pub returns-in_default : goal.returns-in_default
unfolding placed
returns-in_default c =
    rw c.place-in_default.ensures
    (elim c.in_default.branch [
      | in_default-via-then-a-lt128 w ↦ general_stores _ _ _ (omega arith) (omega arith)
      | in_default-via-else-a-lt128+else-a-lt241 w ↦ control _ _ _ (omega arith) (omega arith) (omega arith) (omega arith)
    ])
