-- What is written when a deed is done, and in which order (01 "Instructions").
use Rattle.std.specs.Prelude.{ℕ, ◌+◌, ◌%◌, Bool, true, false}
use Rattle.word.specs.Choose.{pick, bits_if}
use Rattle.word.specs.Fields.{high_byte, low_byte}
use Rattle.word.specs.Words.{plus}
use Rattle.alu.specs.FlagByte.{laid}
use Rattle.alu.specs.declared.Flags.{Flags}
use Rattle.alu.specs.declared.Outcome.{Outcome}
use Rattle.machine.specs.Names.{IMR, FLAGS}
use Rattle.machine.specs.State.{held, placed, with_pc, with_released}
use Rattle.machine.specs.Registers.{read_reg, write_reg}
use Rattle.machine.specs.Addresses.{read_pair, write_pair}
use Rattle.machine.specs.Stack.{Stacked, pushed, raised}
use Rattle.machine.specs.declared.Machine.{Machine}
use Rattle.machine.specs.declared.Pins.{Pins}
use Rattle.machine.specs.declared.Bytes.TheVariants.{One, Two}
use Rattle.std.specs.Prelude.{Some, None}
use Rattle.deeds.specs.Modes.{flags_of}
use Rattle.deeds.specs.declared.Transfer.{Transfer}
use Rattle.deeds.specs.declared.Transfer.TheVariants.{Dropped, ToRegister, ToMemory}
use Rattle.deeds.specs.declared.Deed.{Deed}
use Rattle.deeds.specs.declared.Deed.TheVariants as deed

-- the affected flags, on the FLAGS byte that is in place by then
unfoldable pub flagged : Machine → Flags → Machine
flagged m e = placed m FLAGS (laid (flags_of m) e)

-- "A destination is stored first, then the affected flags, even when it is FLAGS (HOUSE)." They are the deed's: they "go by the result, not
-- by a reading back".
unfoldable pub stored_at : Machine → ℕ → Outcome ℕ → Machine
stored_at m dst o = flagged (write_reg m dst o.value) o.flags

unfoldable pub word_stored_at : Machine → ℕ → Outcome ℕ → Machine
word_stored_at m dst o = flagged (write_pair m dst o.value) o.flags

-- a machine, and nothing to be stored in data memory
abbrev pub no_stores : Machine → Stacked
no_stores m = record { machine = m; stores = None }

-- f done to the machine; the stores stay
abbrev pub then : (Machine → Machine) → Stacked → Stacked
then f s = record { machine = f s.machine; stores = s.stores }

-- a transfer done: to no place, to the register at a by its rule, to data memory at a
unfoldable pub transferred : Machine → Transfer → Stacked
transferred m Dropped = no_stores m
transferred m (ToRegister a v) = no_stores (write_reg m a v)
transferred m (ToMemory a v) = record { machine = m; stores = Some (a, One v) }

-- "add one to what r, then the pair, reads as by then, modulo 256 and 65,536 (HOUSE)"
unfoldable pub counted_up : Pins → Machine → ℕ → Machine
counted_up p m r = write_reg m r ((read_reg p m r + 1) % 256)

unfoldable pub pair_counted_up : Pins → Machine → ℕ → Machine
pair_counted_up p m rr = write_pair m rr (plus (read_pair p m rr) 1)

-- "LDCI and LDEI store, then add one" to both
unfoldable pub block_moved : Pins → Machine → Transfer → ℕ → ℕ → Stacked
block_moved p m t r rr = then (λ n. pair_counted_up p (counted_up p n r) rr) (transferred m t)

-- "RET, IRET and POP read, write SP, then load the destination."
unfoldable pub popped : Machine → ℕ → ℕ → Machine
popped m dst v = write_reg (raised m 1) dst v

unfoldable pub returned : Machine → ℕ → Machine
returned m to = with_pc (raised m 2) to

-- IMR (7) <-- 1 or 0: EI, DI, IRET, and a grant. Its other bits stay.
unfoldable pub interrupts_to : Machine → Bool → Machine
interrupts_to m on = placed m IMR (held m IMR % 128 + bits_if on 0x80)

-- EI: IMR (7) <-- 1, and IRQ, "held in a Reset state until an EI instruction is executed" (004, 10.4.3), is released (02, C-13). Nothing else
-- releases it, not IRET or a store, which may set IMR's bit 7 too; and DI holds nothing again.
unfoldable pub interrupts_enabled : Machine → Machine
interrupts_enabled m = with_released (interrupts_to m true) true

-- IRET: FLAGS <-- @SP, PC <-- @SP, IMR (7) <-- 1, with SP written first
unfoldable pub interrupt_returned : Machine → ℕ → ℕ → Machine
interrupt_returned m flags to = interrupts_to (with_pc (placed (raised m 3) FLAGS flags) to) true

-- CALL pushes the address of the next instruction, its high byte lower
unfoldable pub called : Machine → ℕ → Stacked
called m to = then (λ n. with_pc n to) (pushed m (Two (high_byte m.pc) (low_byte m.pc)))

-- PC <-- to, where the jump is taken
unfoldable pub jumped : Machine → Bool → ℕ → Machine
jumped m taken to = pick taken (with_pc m to) m

-- DJNZ stores, and then jumps
unfoldable pub looped : Machine → ℕ → ℕ → Bool → ℕ → Machine
looped m r v taken to = jumped (write_reg m r v) taken to

-- a deed done
unfoldable pub done_of : Pins → Machine → Deed → Stacked
done_of p m deed.Nothing = no_stores m
done_of p m (deed.Move t) = transferred m t
done_of p m (deed.Store dst o) = no_stores (stored_at m dst o)
done_of p m (deed.StoreWord dst o) = no_stores (word_stored_at m dst o)
done_of p m (deed.Test e) = no_stores (flagged m e)
done_of p m (deed.Block t r rr) = block_moved p m t r rr
done_of p m (deed.Push v) = pushed m (One v)
done_of p m (deed.Pop dst v) = no_stores (popped m dst v)
done_of p m (deed.Call a) = called m a
done_of p m (deed.Return a) = no_stores (returned m a)
done_of p m (deed.ReturnFromInterrupt flags a) = no_stores (interrupt_returned m flags a)
done_of p m (deed.Jump taken a) = no_stores (jumped m taken a)
done_of p m (deed.Loop r v taken a) = no_stores (looped m r v taken a)
done_of p m deed.EnableInterrupts = no_stores (interrupts_enabled m)
done_of p m deed.DisableInterrupts = no_stores (interrupts_to m false)
