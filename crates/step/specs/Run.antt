-- The bounded run (01 "One step", "Numbers the encoder sees").
use Rattle.std.specs.Prelude.{◌&&◌, List, ℕ, ◌+◌, eqb, ltb}
use Rattle.numbers.specs.Numbers.{refused_budget, budget_most}
use Rattle.word.specs.Choose.{pick}
use Rattle.word.specs.Iter.{iter}
use Rattle.machine.specs.declared.Machine.{Machine}
use Rattle.machine.specs.declared.Pins.{Pins}
use Rattle.step.specs.Step.{Progress, step_of}

-- nothing done, with this refusal's number or 0
abbrev pub nothing_done : ℕ → Machine → List ℕ → Progress
nothing_done refusal m mem = record { refusal = refusal; cycles = 0; ends0 = 0; ends1 = 0; machine = m; memory = mem }

-- so far, and one step more. (A step refused leaves machine and memory, and has no cycles and no ends.)
abbrev pub further : Progress → Progress → Progress
further r s =
    record {
      refusal = s.refusal;
      cycles = r.cycles + s.cycles;
      ends0 = r.ends0 + s.ends0;
      ends1 = r.ends1 + s.ends1;
      machine = s.machine;
      memory = s.memory;
    }

-- "A run holds the pins, stops at the first boundary where the spent cycles reach the budget", and at a refusal
unfoldable pub goes_on : ℕ → Progress → Progress → Progress
goes_on budget r s = pick (eqb r.refusal 0 && ltb r.cycles budget) (further r s) r

unfoldable pub one_more : Pins → List ℕ → ℕ → Progress → Progress
one_more p image budget r = goes_on budget r (step_of p image r.memory r.machine)

-- The definition's steps in turn. Each step of a legal machine costs at least one cycle, so as many turns as the budget has cycles are
-- enough (`run_stops`); once the run has stopped, further turns change nothing. "Budget 0 changes nothing."
unfoldable pub steps_of : Pins → List ℕ → List ℕ → Machine → ℕ → Progress
steps_of p image mem m budget = iter budget (one_more p image budget) (nothing_done 0 m mem)

-- refusal 4: "run budget over 1,000,000 cycles"
abbrev pub budget_refusal : ℕ → ℕ
budget_refusal budget = pick (ltb budget_most budget) refused_budget 0

-- "nothing changed" where it is refused. (The refusals that come before are about what a caller lends, and are given where it is lent.)
unfoldable pub run_of : Pins → List ℕ → List ℕ → Machine → ℕ → Progress
run_of p image mem m budget =
    let refusal = budget_refusal budget in
    pick (eqb refusal 0) (steps_of p image mem m budget) (nothing_done refusal m mem)
