-- One timer, T0 or T1 alike (01 "The timers"; 004 11.3).
use Rattle.std.specs.Prelude.{Bool, false, ◌&&◌, ℕ, ◌-◌, ◌≤◌, ◌<◌, ltb}
use Rattle.word.specs.Choose.{pick}
use Rattle.timers.specs.declared.Source.{Source}
use Rattle.timers.specs.declared.Source.TheVariants.{Divider, Edges}
use Rattle.timers.specs.declared.Setup.{Setup}
use Rattle.timers.specs.declared.Counting.{Counting}
use Rattle.timers.specs.declared.Ticked.{Ticked}

-- the count at other numbers, and after the end of a single pass: in a tick or a write these two and `timer_written` alone make the new count
abbrev pub count_at : Counting → ℕ → ℕ → Counting
count_at c prescaler counter = record { timer = record { prescaler = prescaler; counter = counter }; enabled = c.enabled }

abbrev pub stopped : ℕ → Counting
stopped prescaler = record { timer = record { prescaler = prescaler; counter = 256 }; enabled = false }

-- so far no end
abbrev pub no_end : Counting → Ticked
no_end c = record { counting = c; ends = 0 }

-- "A tick lowers an enabled timer's prescaler; from 1 it goes to P and the counter drops; a counter at 1 ends. On an end: repeating,
-- reload N; single pass, counter 256 and enable bit cleared (HOUSE)."
unfoldable pub tick : Setup → Counting → Ticked
tick s c =
    pick (ltb 1 c.timer.prescaler)
    (no_end (count_at c (c.timer.prescaler - 1) c.timer.counter))
    (pick (ltb 1 c.timer.counter)
    (no_end (count_at c s.p (c.timer.counter - 1)))
    (record { counting = pick s.repeats (count_at c s.p s.n) (stopped s.p); ends = 1 }))

-- whether the timer takes ticks from this source
abbrev pub takes : Source → Setup → Bool
takes Divider s = s.divider
takes Edges s = s.edges

-- whether a tick from this source moves the timer: it is enabled and takes it
abbrev pub moves : Source → Setup → Counting → Bool
moves by s c = c.enabled && takes by s

-- a tick from this source, whether or not it moves the timer: `ends` is 0 or 1
unfoldable pub ticked : Source → Setup → Counting → Ticked
ticked by s c = pick (moves by s c) (tick s c) (no_end c)

-- "Writing a load bit copies P and N": what a byte written to TMR makes of the timer, by its load bit and its enable bit
unfoldable pub timer_written : Setup → Bool → Bool → Counting → Counting
timer_written s load enable c =
    record { timer = pick load (record { prescaler = s.p; counter = s.n }) c.timer; enabled = enable }

-- "prescalers 1 to 64", counters 1 to 256, start values alike; requests 0 to 5
pub record LegalSetup (s : Setup) : Type 0 where
  pub p_low : 0 < s.p
  pub p_high : s.p ≤ 64
  pub n_low : 0 < s.n
  pub n_high : s.n ≤ 256
  pub request_high : s.request < 6

pub record LegalCounting (c : Counting) : Type 0 where
  pub prescaler_low : 0 < c.timer.prescaler
  pub prescaler_high : c.timer.prescaler ≤ 64
  pub counter_low : 0 < c.timer.counter
  pub counter_high : c.timer.counter ≤ 256
