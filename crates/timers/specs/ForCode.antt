-- For the contracts of the code alone, which returns in parts what the definitions say whole: nothing here has to be believed.
use Rattle.std.specs.Prelude.{Bool, ℕ, ◌+◌, ◌-◌, ◌*◌, ◌/◌, ◌%◌, ltb, Option, Some, None}
use Rattle.word.specs.Choose.{pick}
use Rattle.word.specs.Iter.{iter}
use Rattle.timers.specs.declared.Source.{Source}
use Rattle.timers.specs.declared.Source.TheVariants.{Divider}
use Rattle.timers.specs.declared.Setup.{Setup}
use Rattle.timers.specs.declared.Counting.{Counting}
use Rattle.timers.specs.declared.Ticked.{Ticked}
use Rattle.timers.specs.declared.Timer.{Timer}
use Rattle.timers.specs.Timer.{count_at, no_end, moves, ticked}
use Rattle.timers.specs.declared.Setting.{Setting}
use Rattle.timers.specs.declared.Moving.{Moving}
use Rattle.timers.specs.declared.Spanned.{Spanned}
use Rattle.timers.specs.declared.clock.Round.{Round}
use Rattle.timers.specs.declared.clock.Counts.{Counts}

-- For the contracts of the move by division alone: one tick more, its end counted; k ticks; and a count of so many whole rounds of the
-- prescaler, r ticks later.
unfoldable pub more : Source → Setup → Ticked → Ticked
more by s a =
    let b = ticked by s a.counting in
    record { counting = b.counting; ends = a.ends + b.ends }

unfoldable pub ticks : Source → Setup → ℕ → Counting → Ticked
ticks by s k c = iter k (more by s) (no_end c)

abbrev pub down : Counting → ℕ → ℕ → ℕ → Counting
down c p rounds r = count_at c (p - r % p) (rounds - r / p)

-- For the contracts of the short move: of k ticks that are so few that the count doesn't end, the count after them, and else none. Of ticks
-- that stay within this round of the prescaler, or don't move the timer; of ticks that pass it; and of any.
abbrev pub few_to : ℕ → ℕ → Option Timer
few_to prescaler counter = Some (record { prescaler = prescaler; counter = counter })

unfoldable pub short_of : Bool → ℕ → Timer → Option Timer
short_of moving k t = pick moving (pick (ltb k t.prescaler) (few_to (t.prescaler - k) t.counter) None) (Some t)

unfoldable pub turned_of : ℕ → ℕ → Timer → Option Timer
turned_of p k t =
    let past = k - t.prescaler in
    pick (ltb past (p * (t.counter - 1))) (few_to (p - past % p) (t.counter - 1 - past / p)) None

unfoldable pub few_of : Bool → ℕ → ℕ → Timer → Option Timer
few_of moving p k t = pick moving (pick (ltb k t.prescaler) (few_to (t.prescaler - k) t.counter) (turned_of p k t)) (Some t)

-- For the code: the ticks in n cycles and the divider after them; of cycles that are so few that no count ends, the divider and both counts
-- then, and where one ends, none.
abbrev pub round_of : ℕ → ℕ → Round
round_of divider n = record { ticks = (divider + n) / 4; divider = (divider + n) % 4 }

abbrev pub counts_of : ℕ → Option Timer → Option Timer → Option Counts
counts_of divider None b = None
counts_of divider (Some a) None = None
counts_of divider (Some a) (Some b) = Some (record { divider = divider; t0 = a; t1 = b })

unfoldable pub few_cycles : Setting → ℕ → Moving → Option Counts
few_cycles s n m =
    let k = (m.divider + n) / 4 in
    counts_of ((m.divider + n) % 4) (few_of (moves Divider s.t0 m.t0) s.t0.p k m.t0.timer) (few_of (moves Divider s.t1 m.t1) s.t1.p k m.t1.timer)

-- For the theorems. The same with ends added; and either timer's part, as the closed formula speaks of either.
abbrev pub added : Spanned → ℕ → ℕ → Spanned
added x e0 e1 = record { moving = x.moving; ends0 = x.ends0 + e0; ends1 = x.ends1 + e1 }
