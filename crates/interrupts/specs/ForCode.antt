-- For the contracts of the code alone, which returns in parts what the definitions say whole: nothing here has to be believed.
use Rattle.std.specs.Prelude.{Bool, not, ℕ, ◌-◌, ◌%◌, eqb}
use Rattle.std.specs.Int.Bits.{bit_and}
use Rattle.word.specs.Choose.{pick}
use Rattle.word.specs.Fields.{is_set}
use Rattle.machine.specs.declared.Machine.{Machine}
use Rattle.interrupts.specs.Edges.{Comparison}

-- a compared machine and T1's ends; and whether any of the four pins fell, in one test
abbrev pub comparison : Machine → ℕ → Comparison
comparison m ends1 = record { machine = m; ends1 = ends1 }

unfoldable pub any_fell : ℕ → ℕ → Bool
any_fell last given = not (eqb (bit_and (last % 16) (15 - given % 16)) 0)

-- the requests that stand, among which priority is: a mask bit is set too, and IMR's bit 7
unfoldable pub standing_of : ℕ → ℕ → ℕ
standing_of irq imr = pick (is_set 7 imr) (bit_and irq imr) 0
