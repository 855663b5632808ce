-- A run, turn by turn: what holds of it so far, and that it is the definition's.
use mathlib.Core.Path.{◌≡◌, refl, ap, sym, ◌∙◌, subst}
use mathlib.Core.Bool.{true, false, and-false}
use mathlib.Core.List.{List}
use Prim.Native.Nat.{ℕ, zero, suc, ◌+◌, ◌-◌, ◌*◌, ◌≤◌, ◌<◌}
use native.Mathlib.Nat.{zero-add, add-zero}
use native.Mathlib.Omega.{arith}
use lib.Dec.{eqb, ltb}
use borrow.Author.Tests.{lt-ltb, le-ltb}
use Rattle.word.specs.Iter.{iter}
use Rattle.word.proofs.Iterate.{iter_zero, iter_one, iter_suc, iter_split, iter_fixed}
use Rattle.machine.specs.Clock.{span_of}
use Rattle.machine.specs.Legal.{Legal}
use Rattle.machine.specs.declared.Machine.{Machine}
use Rattle.machine.specs.declared.Pins.{Pins}
use Rattle.machine.proofs.Legal.{LegalPins}
use Rattle.deeds.proofs.Fits.{AllRead}
use Rattle.execute.specs.Execute.{Execution}
use Rattle.interrupts.specs.Edges.{Comparison, compared_of}
use Rattle.interrupts.proofs.Steady.{compared_leaves, compared_last}
use Rattle.interrupts.proofs.Legal.{compared_legal}
use Rattle.step.specs.Step.{Progress, clocked_on, step_of}
use Rattle.step.specs.Run.{nothing_done, further, goes_on, one_more, steps_of, run_of}
use Rattle.step.proofs.Good.{Taken, Good, step_good}
use Rattle.step.proofs.Acts.{done_on, action_is, action_taken, step_last}
use Rattle.step.proofs.Good.Good.{refused, taken}

-- no step taken yet, the pins compared, and T1's ends by that
abbrev pub compared_first : ℕ → Machine → List ℕ → Progress
compared_first ends1 m mem = record { refusal = 0; cycles = 0; ends0 = 0; ends1 = ends1; machine = m; memory = mem }

module _ (p : Pins) (image mem₀ : List ℕ) (m₀ : Machine) (ends1₀ budget : ℕ) where
  abbrev turn : Progress → Progress
  turn = one_more p image budget

  abbrev begin : Progress
  begin = compared_first ends1₀ m₀ mem₀

  -- all turns
  abbrev pub all_turns : Progress
  all_turns = iter budget (one_more p image budget) (compared_first ends1₀ m₀ mem₀)

  -- so far: it has come by so many turns, none of them refused, and the pins given are the last
  pub record SoFar (r : Progress) : Type 0 where
    pub turns : ℕ
    pub come : r ≡ iter turns (one_more p image budget) (compared_first ends1₀ m₀ mem₀)
    pub not_refused : r.refusal ≡ 0
    pub turns_few : turns ≤ r.cycles
    pub turns_within : turns ≤ budget
    pub cycles_within : r.cycles ≤ budget + 62
    pub ends0_few : r.ends0 ≤ r.cycles
    pub ends1_few : r.ends1 ≤ 2 * r.cycles + 1
    pub compared : r.machine.last3 ≡ p.port3
    pub legal : Legal r.machine
    pub bytes : AllRead r.memory

  pub at_first : Legal m₀ → m₀.last3 ≡ p.port3 → ends1₀ ≤ 1 → AllRead mem₀ → SoFar (compared_first ends1₀ m₀ mem₀)
  at_first l same few lm =
      record {
        turns = 0;
        come = sym (iter_zero turn begin);
        not_refused = refl;
        turns_few = omega arith;
        turns_within = omega arith;
        cycles_within = omega arith;
        ends0_few = omega arith;
        ends1_few = omega (arith, few);
        compared = same;
        legal = l;
        bytes = lm;
      }

  -- a turn where the budget is not reached, and where it is
  goes : (r : Progress) → r.refusal ≡ 0 → r.cycles < budget → one_more p image budget r ≡ further r (step_of p image r.memory r.machine)
  unfolding one_more goes_on
  goes r e h = let t : ltb r.cycles budget ≡ true = lt-ltb r.cycles budget h in rw (e, t)

  -- a step more
  pub further_on : {r : Progress} → SoFar r → r.cycles < budget → Taken (step_of p image r.memory r.machine)
      → SoFar (further r (step_of p image r.memory r.machine))
  further_on {r} f h t =
      let few = f.turns_few in
      let low = t.costs_low in
      record {
        turns = suc f.turns;
        come = sym (goes r f.not_refused h) ∙ ap turn f.come ∙ sym (iter_suc turn f.turns begin);
        not_refused = t.not_refused;
        turns_few = omega (arith, few, low);
        turns_within = omega (arith, few, h);
        cycles_within = omega (arith, h, t.costs_high);
        ends0_few = omega (arith, f.ends0_few, t.ends0_few);
        ends1_few = omega (arith, f.ends1_few, t.ends1_few, low);
        compared = step_last p image r.memory r.machine t.not_refused;
        legal = t.legal;
        bytes = t.bytes;
      }

  -- all turns, where further ones change nothing
  settled : {r : Progress} (k : ℕ) → k ≤ budget → r ≡ iter k turn begin → one_more p image budget r ≡ r → r ≡ all_turns
  settled {r} k h e fixed =
      sym
      (iter_split turn budget (budget - k) k (omega arith) begin
      ∙ ap (iter (budget - k) turn) (sym e)
      ∙ iter_fixed turn r fixed (budget - k))

  -- the budget is reached
  rests : (r : Progress) → budget ≤ r.cycles → one_more p image budget r ≡ r
  unfolding one_more goes_on
  rests r h = let t : ltb r.cycles budget ≡ false = le-ltb r.cycles budget h in rw (t, and-false (eqb r.refusal 0))

  pub reached : {r : Progress} → SoFar r → budget ≤ r.cycles → r ≡ all_turns
  reached {r} f h = settled f.turns f.turns_within f.come (rests r h)

  -- a step is refused
  abbrev pub stopped_at : Progress → Progress
  stopped_at r = record { refusal = 5; cycles = r.cycles; ends0 = r.ends0; ends1 = r.ends1; machine = r.machine; memory = r.memory }

  stays : (r : Progress) → one_more p image budget (stopped_at r) ≡ stopped_at r
  unfolding one_more goes_on
  stays r = refl

  nothing_more : (r : Progress) → stopped_at r ≡ further r (nothing_done 5 r.machine r.memory)
  nothing_more r = rw (add-zero r.cycles, add-zero r.ends0, add-zero r.ends1)

  pub stopped : {r : Progress} → SoFar r → r.cycles < budget → step_of p image r.memory r.machine ≡ nothing_done 5 r.machine r.memory
      → stopped_at r ≡ all_turns
  stopped {r} f h e =
      let few = f.turns_few in
      settled (suc f.turns) (omega (arith, few, h))
      (nothing_more r
      ∙ ap (further r) (sym e)
      ∙ sym (goes r f.not_refused h)
      ∙ ap turn f.come
      ∙ sym (iter_suc turn f.turns begin))
      (stays r)

  -- the same of a step as the code has it: s is the step from r
  module _ (lp : LegalPins p) (li : AllRead image) {r s : Progress} (f : SoFar r) (h : r.cycles < budget) (e : s ≡ step_of p image r.memory r.machine) where
    abbrev good : Good r.machine r.memory (step_of p image r.memory r.machine)
    good = step_good p image r.memory r.machine f.legal lp li f.bytes

    pub was_taken : s.refusal ≡ 0 → Taken s
    was_taken d = go good
      where
        go : Good r.machine r.memory (step_of p image r.memory r.machine) → Taken s
        go (refused x) = let five : ◌≡◌ {A = ℕ} 5 0 = sym (ap (λ (y : Progress). y.refusal) (e ∙ x)) ∙ d in absurd (omega (arith, five))
        go (taken t) = subst Taken (sym e) t

    pub one_on : Taken s
        → SoFar (record { refusal = 0; cycles = r.cycles + s.cycles; ends0 = r.ends0 + s.ends0; ends1 = r.ends1 + s.ends1; machine = s.machine; memory = s.memory })
    one_on t =
        subst
        (λ (q : ℕ). SoFar (record { refusal = q; cycles = r.cycles + s.cycles; ends0 = r.ends0 + s.ends0; ends1 = r.ends1 + s.ends1; machine = s.machine; memory = s.memory }))
        t.not_refused
        (subst (λ (x : Progress). SoFar (further r x)) (sym e) (further_on f h (subst Taken e t)))

    pub was_refused : (s.refusal ≡ 0 → ⊥)
        → ◌≡◌ {A = Progress} (record { refusal = s.refusal; cycles = r.cycles; ends0 = r.ends0; ends1 = r.ends1; machine = s.machine; memory = s.memory }) all_turns
    was_refused d = go good
      where
        go : Good r.machine r.memory (step_of p image r.memory r.machine)
            → ◌≡◌ {A = Progress} (record { refusal = s.refusal; cycles = r.cycles; ends0 = r.ends0; ends1 = r.ends1; machine = s.machine; memory = s.memory }) all_turns
        go (refused x) =
            ap (λ (y : Progress). record { refusal = y.refusal; cycles = r.cycles; ends0 = r.ends0; ends1 = r.ends1; machine = y.machine; memory = y.memory }) (e ∙ x)
            ∙ stopped f h x
        go (taken t) = absurd (d (ap (λ (y : Progress). y.refusal) e ∙ t.not_refused))

-- a run whose first step is refused
pub refused_first : (p : Pins) (image mem : List ℕ) (m : Machine) (budget : ℕ) → 0 < budget → step_of p image mem m ≡ nothing_done 5 m mem
    → nothing_done 5 m mem ≡ steps_of p image mem m budget
unfolding steps_of
refused_first p image mem m budget h e =
    let f = one_more p image budget in
    let b = nothing_done 0 m mem in
    settled p image mem m 0 budget 1 (omega (arith, h))
    (nothing_more p image mem m 0 budget b
    ∙ ap (further b) (sym e)
    ∙ sym (goes p image mem m 0 budget b refl h)
    ∙ sym (iter_one f b))
    (stays p image mem m 0 budget b)

-- Compared before the first step or with it, it is the same run: where the first step is not refused, T1's ends by the edges are told apart
-- from those of the clock.
module _ (p : Pins) (image mem : List ℕ) (m : Machine) (l : Legal m) (lp : LegalPins p) where
  abbrev seen : Comparison
  seen = compared_of m p.port3

  abbrev done : Execution
  done = done_on p image mem seen.machine

  from_before : (step_of p image mem m).refusal ≡ 0 → step_of p image mem m ≡ clocked_on m mem (record { done = done; ends1 = seen.ends1 })
  unfolding step_of clocked_on
  from_before d = ap (clocked_on m mem) (action_taken p image mem m d)

  from_compared : step_of p image mem seen.machine ≡ clocked_on seen.machine mem (record { done = done; ends1 = 0 })
  unfolding step_of
  from_compared =
      ap (clocked_on seen.machine mem)
      (action_is p image mem seen.machine (compared_legal p.port3 l lp.port3_byte) (compared_last m p.port3))

  -- the first step, from the machine as it was and from the compared one
  first_step : (step_of p image mem m).refusal ≡ 0
      → further (nothing_done 0 m mem) (step_of p image mem m) ≡ further (compared_first seen.ends1 seen.machine mem) (step_of p image mem seen.machine)
  unfolding clocked_on
  first_step d =
      let ends = (span_of done.cycles done.machine).ends1 in
      rw (from_before d, from_compared, (compared_leaves m p.port3 l.file.long (l.file.bytes 0xF1)).kind_left, zero-add (seen.ends1 + ends), zero-add ends)

  pub compared_before : (budget : ℕ) (c : Comparison) → c ≡ compared_of m p.port3 → 0 < budget → (step_of p image mem m).refusal ≡ 0
      → all_turns p image mem c.machine c.ends1 budget ≡ steps_of p image mem m budget
  unfolding steps_of
  compared_before zero c e h d = absurd (omega arith)
  compared_before (suc n) c e h d =
      let f = one_more p image (suc n) in
      let a = compared_first seen.ends1 seen.machine mem in
      let b = nothing_done 0 m mem in
      rw e
      (iter_split f (suc n) n 1 (omega arith) a
      ∙ ap (iter n f)
      (iter_one f a
      ∙ goes p image mem m 0 (suc n) a refl h
      ∙ sym (first_step d)
      ∙ sym (goes p image mem m 0 (suc n) b refl h)
      ∙ sym (iter_one f b))
      ∙ sym (iter_split f (suc n) n 1 (omega arith) b))

-- a step is the steps that reach a budget of one
one_step : (p : Pins) (image mem : List ℕ) (m : Machine) → steps_of p image mem m 1 ≡ step_of p image mem m
unfolding steps_of
one_step p image mem m =
    iter_one (one_more p image 1) (nothing_done 0 m mem) ∙ goes p image mem m 0 1 (nothing_done 0 m mem) refl (omega arith) ∙ from_nothing (step_of p image mem m)
  where
    from_nothing : (s : Progress) → further (nothing_done 0 m mem) s ≡ s
    from_nothing s = rw (zero-add s.cycles, zero-add s.ends0, zero-add s.ends1)

pub one_run : (p : Pins) (image mem : List ℕ) (m : Machine) → run_of p image mem m 1 ≡ step_of p image mem m
unfolding run_of
one_run p image mem m = one_step p image mem m
