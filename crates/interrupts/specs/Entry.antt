-- The grant of a request (01 "One step"; 004, 10.3, 10.4.2 and 10.6).
use Rattle.std.specs.Prelude.{false, List, ℕ, ◌+◌, ◌-◌, ◌*◌, ◌^◌}
use Rattle.std.specs.Int.Bits.{bit_and}
use Rattle.word.specs.Fields.{word_of, high_byte, low_byte}
use Rattle.machine.specs.Names.{IRQ}
use Rattle.machine.specs.State.{held, placed, with_pc}
use Rattle.machine.specs.Memory.{program_byte}
use Rattle.machine.specs.Stack.{Stacked, pushed}
use Rattle.machine.specs.declared.Machine.{Machine}
use Rattle.machine.specs.declared.Bytes.TheVariants.{Three}
use Rattle.deeds.specs.Modes.{flags_of}
use Rattle.execute.specs.Doing.{then, interrupts_to}

-- IRQ with request n cleared
unfoldable pub cleared : ℕ → ℕ → ℕ
cleared n irq = bit_and irq (255 - 2 ^ n)

-- "the vector at twice its number, high byte first"
abbrev pub vector_at : ℕ → ℕ
vector_at n = 2 * n

unfoldable pub vector_of : List ℕ → ℕ → ℕ
vector_of image n = word_of (program_byte image (vector_at n)) (program_byte image (vector_at n + 1))

-- what follows the push: "clears its request and bit 7 of IMR, and jumps", so they are clear also in bytes that the push has just stored
-- to FA or FB
unfoldable pub acknowledged : List ℕ → ℕ → Machine → Machine
acknowledged image n m = with_pc (interrupts_to (placed m IRQ (cleared n (held m IRQ))) false) (vector_of image n)

-- request n entered: "A pushed address has its high byte lower; an interrupt's FLAGS lie below it."
unfoldable pub entered_of : List ℕ → Machine → ℕ → Stacked
entered_of image m n = then (acknowledged image n) (pushed m (Three (flags_of m) (high_byte m.pc) (low_byte m.pc)))
