-- The request register IRQ, whose "Bits D_0-D_5 are assigned to interrupt requests" 0 to 5 (004, 10.4.3). Of a `RequestRegister`, `irq` is
-- what it holds, and `released` whether an EI has been executed since the last reset.
use Rattle.std.specs.Prelude.{Bool, ℕ, ◌^◌, eqb, ltb}
use Rattle.std.specs.Int.Bits.{bit_or}
use Rattle.word.specs.Choose.{pick}
use Rattle.timers.specs.declared.RequestRegister.{RequestRegister}

-- request n is latched, whatever stands in IRQ or in the masks. But "IRQ is held in a Reset state until an EI instruction is executed" (004,
-- 10.4.3): until then nothing latches (02, C-13).
unfoldable pub latch : ℕ → RequestRegister → RequestRegister
latch n r = record { irq = pick r.released (bit_or r.irq (2 ^ n)) r.irq; released = r.released }

-- request n latched, where it was asked for
unfoldable pub latched_if : Bool → ℕ → RequestRegister → RequestRegister
latched_if asked n r = pick asked (latch n r) r

-- what IRQ may be, for the laws: bits 6 and 7 are zero, and "a legal machine that hasn't" executed EI "has IRQ zero" (02, C-13)
unfoldable pub requests_fit : RequestRegister → Bool
requests_fit r = pick r.released (ltb r.irq 64) (eqb r.irq 0)
