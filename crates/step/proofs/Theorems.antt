-- What the order asks of a step and a run beyond the contracts.
use mathlib.Core.Path.{◌≡◌, refl, ap, sym, ◌∙◌, subst}
use mathlib.Core.Bool.{true, false, ◌&&◌}
use mathlib.Core.List.{List}
use Prim.Native.Nat.{ℕ, zero, suc, ◌+◌, ◌≤◌, ◌<◌}
use native.Mathlib.Decide.{dec_lt}
use native.Mathlib.Omega.{arith}
use lib.Dec.{T, eqb, ltb}
use borrow.Author.Tests.{eqb-true, eqb-false, ltb-true, lt-ltb}
use Rattle.std.specs.Prelude.{Option, Some, None}
use Rattle.word.proofs.Computed.{by_test}
use Rattle.word.specs.Iter.{iter}
use Rattle.word.proofs.Iterate.{iter_zero, iter_suc}
use Rattle.std.proofs.lemmas.Bool.{and_parts}
use Rattle.machine.specs.Legal.{Legal}
use Rattle.machine.specs.declared.Machine.{Machine}
use Rattle.machine.specs.declared.Pins.{Pins}
use Rattle.machine.proofs.Legal.{LegalPins}
use Rattle.deeds.proofs.Fits.{AllRead}
use Rattle.opcodes.specs.Map.{entry_of}
use Rattle.opcodes.specs.Instruction.{defined}
use Rattle.opcodes.specs.declared.Kind.{Kind}
use Rattle.machine.specs.Memory.{program_byte}
use Rattle.execute.specs.Execute.{code_at}
use Rattle.interrupts.specs.Edges.{compared_of}
use Rattle.interrupts.specs.Grants.{grant_of}
use Rattle.step.specs.Step.{Progress, clocked_on, step_of}
use Rattle.numbers.specs.Numbers.{refused_budget, budget_most}
use Rattle.step.specs.Run.{nothing_done, goes_on, one_more, steps_of, budget_refusal, run_of}
use Rattle.step.proofs.Acts.{blank_refused, kind_taken, request_taken}
use Rattle.step.proofs.Good.{Taken, Good, unclocked, step_good}
use Rattle.step.proofs.Good.Good.{refused, taken}

-- five is a refusal
five_refuses : {A : Type 0} → ◌≡◌ {A = ℕ} 5 0 → A
five_refuses e = absurd (omega arith)

module _ (p : Pins) (image : List ℕ) (lp : LegalPins p) (li : AllRead image) where
  -- A step refused is refused with 5, "nothing changed": not IRQ, TMR, the counts, T_OUT or the last pins either.
  pub refused_step : (mem : List ℕ) (m : Machine) → Legal m → AllRead mem → ((step_of p image mem m).refusal ≡ 0 → ⊥) → step_of p image mem m ≡ nothing_done 5 m mem
  refused_step mem m l lm d = go (step_good p image mem m l lp li lm)
    where
      go : Good m mem (step_of p image mem m) → step_of p image mem m ≡ nothing_done 5 m mem
      go (refused e) = e
      go (taken t) = absurd (d t.not_refused)

  -- A step taken costs 6 to 63 cycles, and has at most one end of T0 for each, and one of T1 more.
  pub taken_step : (mem : List ℕ) (m : Machine) → Legal m → AllRead mem → (step_of p image mem m).refusal ≡ 0 → Taken (step_of p image mem m)
  taken_step mem m l lm d = go (step_good p image mem m l lp li lm)
    where
      go : Good m mem (step_of p image mem m) → Taken (step_of p image mem m)
      go (refused e) = five_refuses (sym (ap (λ (s : Progress). s.refusal) e) ∙ d)
      go (taken t) = t

  -- a legal machine stays legal, and data memory bytes
  pub step_legal : (mem : List ℕ) (m : Machine) → Legal m → AllRead mem → Legal (step_of p image mem m).machine × AllRead (step_of p image mem m).memory
  step_legal mem m l lm = go (step_good p image mem m l lp li lm)
    where
      go : Good m mem (step_of p image mem m) → Legal (step_of p image mem m).machine × AllRead (step_of p image mem m).memory
      go (refused e) = (rw e l, rw e lm)
      go (taken t) = (t.legal, t.bytes)

  module _ (budget : ℕ) where
    -- after so many turns: legal, at most 62 cycles over, and, as long as it goes on, a cycle for each turn
    record Kept (turns : ℕ) (r : Progress) : Type 0 where
      legal : Legal r.machine
      bytes : AllRead r.memory
      within : r.cycles ≤ budget + 62
      going : r.refusal ≡ 0 → r.cycles < budget → turns ≤ r.cycles

    one_kept : (turns : ℕ) (r : Progress) → Kept turns r → Kept (suc turns) (one_more p image budget r)
    unfolding one_more goes_on
    one_kept turns r k =
        let s = step_of p image r.memory r.machine in
        let both = step_legal r.memory r.machine k.legal k.bytes in
        by_test (Kept (suc turns)) (eqb r.refusal 0 && ltb r.cycles budget)
        (λ t.
        let on = and_parts (eqb r.refusal 0) (ltb r.cycles budget) t in
        let low = ltb-true r.cycles budget on.1 in
        record {
          legal = both.0;
          bytes = both.1;
          within = omega (arith, low, costs r.memory r.machine k.legal k.bytes);
          going =
              λ d h.
              let few = k.going (eqb-true r.refusal 0 on.0) low in
              let cost = (taken_step r.memory r.machine k.legal k.bytes d).costs_low in
              omega (arith, few, cost);
        })
        (λ t.
        record {
          legal = k.legal;
          bytes = k.bytes;
          within = k.within;
          going = λ d h. absurd (subst T (sym (test d (lt-ltb r.cycles budget h)) ∙ t) tt);
        })
      where
        test : r.refusal ≡ 0 → ltb r.cycles budget ≡ true → (eqb r.refusal 0 && ltb r.cycles budget) ≡ true
        test d h = rw (d, h)

        costs : (mem : List ℕ) (m : Machine) → Legal m → AllRead mem → (step_of p image mem m).cycles ≤ 63
        costs mem m l lm = go (step_good p image mem m l lp li lm)
          where
            go : Good m mem (step_of p image mem m) → (step_of p image mem m).cycles ≤ 63
            go (refused e) = rw e (omega arith)
            go (taken t) = t.costs_high

    kept : (mem : List ℕ) (m : Machine) → Legal m → AllRead mem → (turns : ℕ) → Kept turns (iter turns (one_more p image budget) (nothing_done 0 m mem))
    kept mem m l lm zero = rw (iter_zero (one_more p image budget)) (record { legal = l; bytes = lm; within = omega arith; going = λ d h. omega arith })
    kept mem m l lm (suc turns) = rw (iter_suc (one_more p image budget)) (one_kept turns _ (kept mem m l lm turns))

    module _ (mem : List ℕ) (m : Machine) (l : Legal m) (lm : AllRead mem) where
      ran : Kept budget (steps_of p image mem m budget)
      unfolding steps_of
      ran = kept mem m l lm budget

      pub run_legal : Legal (run_of p image mem m budget).machine
      unfolding run_of
      run_legal = by_test (λ (r : Progress). Legal r.machine) (eqb (budget_refusal budget) 0) (λ t. ran.legal) (λ t. l)

      -- "so it spends at most 62 cycles over"
      pub run_over : (run_of p image mem m budget).cycles ≤ budget + 62
      unfolding run_of
      run_over = by_test (λ (r : Progress). r.cycles ≤ budget + 62) (eqb (budget_refusal budget) 0) (λ t. ran.within) (λ t. omega arith)

      -- as many turns as the budget has cycles are enough: a run that isn't refused has reached it
      pub run_stops : (run_of p image mem m budget).refusal ≡ 0 → budget ≤ (run_of p image mem m budget).cycles
      unfolding run_of
      run_stops =
          by_test (λ (r : Progress). r.refusal ≡ 0 → budget ≤ r.cycles) (eqb (budget_refusal budget) 0)
          (λ t d. reaches d (dec_lt (steps_of p image mem m budget).cycles budget))
          (λ t d. absurd (eqb-false (budget_refusal budget) 0 t d))
        where
          reaches : (steps_of p image mem m budget).refusal ≡ 0 → Dec ((steps_of p image mem m budget).cycles < budget) → budget ≤ (steps_of p image mem m budget).cycles
          reaches d (yes h) = ran.going d h
          reaches d (no n) = omega (arith, n)

-- Refusal 5 is given exactly where nothing is granted, the edges counted, and the opcode is undefined.
module _ (p : Pins) (image mem : List ℕ) (m : Machine) (l : Legal m) where
  pub undefined_refused : grant_of (compared_of m p.port3).machine ≡ None → entry_of (program_byte image m.pc) ≡ None
      → step_of p image mem m ≡ nothing_done 5 m mem
  unfolding step_of code_at
  undefined_refused g e = ap (clocked_on m mem) (blank_refused p image mem m l g e) ∙ unclocked m mem

  pub defined_taken : {k : Kind} → grant_of (compared_of m p.port3).machine ≡ None → entry_of (program_byte image m.pc) ≡ Some k
      → (step_of p image mem m).refusal ≡ 0
  unfolding step_of clocked_on code_at
  defined_taken g e = kind_taken p image mem m l g e

  pub granted_taken : {n : ℕ} → grant_of (compared_of m p.port3).machine ≡ Some n → (step_of p image mem m).refusal ≡ 0
  unfolding step_of clocked_on
  granted_taken g = request_taken p image mem m l g

  -- the same, told by whether the opcode is defined
  pub told_refused : grant_of (compared_of m p.port3).machine ≡ None → defined (entry_of (program_byte image m.pc)) ≡ false
      → step_of p image mem m ≡ nothing_done 5 m mem
  told_refused g d = go (entry_of (program_byte image m.pc)) refl
    where
      go : (e : Option Kind) → entry_of (program_byte image m.pc) ≡ e → step_of p image mem m ≡ nothing_done 5 m mem
      go None e = undefined_refused g e
      go (Some k) e = absurd (subst T (sym (ap defined e) ∙ d) tt)

  pub told_taken : grant_of (compared_of m p.port3).machine ≡ None → defined (entry_of (program_byte image m.pc)) ≡ true
      → (step_of p image mem m).refusal ≡ 0
  told_taken g d = go (entry_of (program_byte image m.pc)) refl
    where
      go : (e : Option Kind) → entry_of (program_byte image m.pc) ≡ e → (step_of p image mem m).refusal ≡ 0
      go None e = absurd (subst T (sym d ∙ ap defined e) tt)
      go (Some k) e = defined_taken g e

-- "Budget 0 changes nothing", whatever the pins
pub run_nothing : (p : Pins) (image mem : List ℕ) (m : Machine) → run_of p image mem m 0 ≡ nothing_done 0 m mem
unfolding run_of steps_of
run_nothing p image mem m = iter_zero (one_more p image 0) (nothing_done 0 m mem)

-- over 1,000,000: 4, and nothing is changed
pub run_refused : (p : Pins) (image mem : List ℕ) (m : Machine) (budget : ℕ) → budget_most < budget → run_of p image mem m budget ≡ nothing_done refused_budget m mem
unfolding run_of
run_refused p image mem m budget h = let over : ltb budget_most budget ≡ true = lt-ltb budget_most budget h in rw over
