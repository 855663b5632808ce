-- FA, while IRQ is held and once it is released (02, C-13). In this room only these laws open `write_irq`.
use mathlib.Core.Path.{◌≡◌}
use mathlib.Core.Bool.{true, false}
use Prim.Native.Nat.{ℕ, ◌%◌}
use Rattle.word.proofs.Computed.{by_test}
use Rattle.machine.specs.Names.{IRQ}
use Rattle.machine.specs.State.{placed}
use Rattle.machine.specs.Registers.{write_irq, write_reg}
use Rattle.machine.specs.declared.Machine.{Machine}

-- until an EI has been executed, stores are dropped
pub held_drops : (m : Machine) (v : ℕ) → m.released ≡ false → write_reg m IRQ v ≡ m
unfolding write_reg write_irq
held_drops m v held = rw held

-- once one has been, they are stored but for bits 6 and 7
pub released_stores : (m : Machine) (v : ℕ) → m.released ≡ true → write_reg m IRQ v ≡ placed m IRQ (v % 64)
unfolding write_reg write_irq
released_stores m v released = rw released

-- so what holds of a byte stored and of the machine itself holds of the machine after a store to FA
pub irq_either : (m : Machine) (v : ℕ) (P : Machine → Type 0) → (m.released ≡ true → P (placed m IRQ (v % 64))) → P m → P (write_irq m v)
unfolding write_irq
irq_either m v P stored dropped = by_test P m.released stored (λ held. dropped)
