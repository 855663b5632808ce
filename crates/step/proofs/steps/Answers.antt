use Rattle.std.proofs.Common.{rules, ◌≡◌, ap, sym, ◌∙◌, refl, subst, List, ℕ, ◌≤◌, ◌<◌, arith, length, Ok}
use Rattle.word.proofs.Iterate.{iter_zero}
use Rattle.machine.specs.Legal.{Legal}
use Rattle.machine.proofs.Legal.{LegalPins}
use Rattle.machine.specs.declared.Machine.{Machine}
use Rattle.deeds.proofs.Fits.{AllRead}
use Rattle.interrupts.specs.Edges.{Comparison}
use Rattle.interrupts.proofs.Steady.{compared_last}
use Rattle.interrupts.proofs.Legal.{compared_legal, compared_ends}
use Rattle.step.specs.ForCode.{stepped_in}
use Rattle.step.specs.Run.{steps_of}
use Rattle.numbers.proofs.Refused.{number_some}
use Rattle.step.proofs.Acts.{read_any}
use Rattle.step.proofs.Turns.{at_first, was_taken, one_on, was_refused, reached, refused_first, compared_before, all_turns}
use Rattle.step.proofs.Good.{Taken}
use Rattle.step.proofs.steps.Goals as goal
use Rattle.step.proofs.steps.Goals.{After-compare-ends1, After-slice_known-1, In-Ok}

memory_read : (s : After-slice_known-1) → AllRead s.args.mem.now
memory_read s = read_any s.args.mem.now (λ i. omega (arith, s.type_inv.mem i))

-- the pins compared, and where the first step is not refused the run is what it is from there
same_run : (s : After-compare-ends1) → LegalPins s.args.pins
    → all_turns s.args.pins s.args.image.now s.args.mem.now s.compare-ends1.new.m s.compare-ends1.result s.args.budget
    ≡ steps_of s.args.pins s.args.image.now s.args.mem.now s.args.m.now s.args.budget
same_run s lp =
    let some : 0 < s.args.budget = omega (arith, s.if-budget-eq0.false) in
    let first = s.is_refused.ensures.taken s.if-is_refused.false s.args.mem.now in
    compared_before s.args.pins s.args.image.now s.args.mem.now s.args.m.now s.requires.legal lp s.args.budget _ s.compare-ends1.ensures some first

pub returns-then-budget-eq0 : goal.returns-then-budget-eq0
unfolding steps_of
returns-then-budget-eq0 c = rw c.if-budget-eq0.true (sym (iter_zero _ _))

pub is_refused-requires : goal.is_refused-requires
is_refused-requires c = c.requires.legal

pub returns-then-is_refused : goal.returns-then-is_refused
returns-then-is_refused c =
    let first = c.is_refused.ensures.refused c.if-is_refused.true c.args.mem.now in
    refused_first c.args.pins c.args.image.now c.args.mem.now c.args.m.now c.args.budget (omega (arith, c.if-budget-eq0.false)) first

pub compare-ends1-requires : goal.compare-ends1-requires
compare-ends1-requires c = c.requires.legal

pub loop-cycles-init : goal.loop-cycles-init
loop-cycles-init c =
    let lp : LegalPins c.args.pins = search rules in
    let m = c.args.m.now in
    let port3 = c.args.pins.port3 in
    let legal = subst Legal (sym (ap (λ (x : Comparison). x.machine) c.compare-ends1.ensures)) (compared_legal port3 c.requires.legal lp.port3_byte) in
    let last = ap (λ (x : Comparison). x.machine.last3) c.compare-ends1.ensures ∙ compared_last m port3 in
    let few = subst (λ (n : ℕ). n ≤ 1) (sym (ap (λ (x : Comparison). x.ends1) c.compare-ends1.ensures)) (compared_ends m port3) in
    (at_first _ _ _ _ _ _ legal last few (memory_read (goal.at.loop-cycles-init c).After-slice_known-1), refl)

pub step_in-requires : goal.step_in-requires
step_in-requires c = record { legal = c.loop-cycles.invariant.0.legal; rest_value = c.loop-cycles.invariant.0.compared }

-- a turn of the loop
module _ (s : In-Ok) where
  image_read : AllRead s.args.image.now
  image_read = read_any s.args.image.now (λ i. omega (arith, s.type_inv.image i))

  taken : LegalPins s.args.pins → Taken (stepped_in s.step_in.new.m s.step_in.new.mem (Ok s.in-Ok.s))
  taken lp = was_taken _ _ _ _ _ _ lp image_read s.loop-cycles.invariant.0 s.loop-cycles-test.true s.in-Ok.ensures refl

pub returns-in-Err : goal.returns-in-Err
returns-in-Err c =
    let lp : LegalPins c.args.pins = search rules in
    let image_read = read_any c.args.image.now (λ i. omega (arith, c.type_inv.image i)) in
    was_refused _ _ _ _ _ _ lp image_read c.loop-cycles.invariant.0 c.loop-cycles-test.true c.in-Err.ensures (number_some c.in-Err.e)
    ∙ same_run (goal.at.returns-in-Err c).After-compare-ends1 lp

pub overflow_add-cycles : goal.overflow_add-cycles
overflow_add-cycles c =
    let t = taken (goal.at.overflow_add-cycles c).In-Ok (search rules) in
    omega (arith, t.costs_high, c.loop-cycles-test.true, c.requires.budget_le_budget_most)

pub overflow_add-ends0 : goal.overflow_add-ends0
overflow_add-ends0 c =
    let t = taken (goal.at.overflow_add-ends0 c).In-Ok (search rules) in
    omega (arith, t.costs_high, t.ends0_few, c.loop-cycles.invariant.0.ends0_few, c.loop-cycles-test.true, c.requires.budget_le_budget_most)

pub overflow_add-ends1 : goal.overflow_add-ends1
overflow_add-ends1 c =
    let t = taken (goal.at.overflow_add-ends1 c).In-Ok (search rules) in
    omega (arith, t.costs_high, t.ends1_few, c.loop-cycles.invariant.0.ends1_few, c.loop-cycles-test.true, c.requires.budget_le_budget_most)

pub loop-cycles-smaller : goal.loop-cycles-smaller
loop-cycles-smaller c =
    let t = taken (goal.at.loop-cycles-smaller c).In-Ok (search rules) in
    omega (arith, t.costs_low, c.loop-cycles-test.true)

pub loop-cycles-preserved : goal.loop-cycles-preserved
loop-cycles-preserved c =
    let here = (goal.at.loop-cycles-preserved c).In-Ok in
    let lp : LegalPins c.args.pins = search rules in
    (one_on _ _ _ _ _ _ lp (image_read here) c.loop-cycles.invariant.0 c.loop-cycles-test.true c.in-Ok.ensures (taken here lp), c.step_in.auto.mem ∙ c.loop-cycles.invariant.1)

pub shape_of-mem : goal.shape_of-mem
shape_of-mem c = c.loop-cycles.invariant.1

pub returns : goal.returns
returns c =
    reached _ _ _ _ _ _ c.loop-cycles.invariant.0 c.loop-cycles-test.false ∙ same_run (goal.at.returns c).After-compare-ends1 (search rules)
