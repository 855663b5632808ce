-- A step either is refused, and then nothing is changed, or costs 6 to 63 cycles and leaves a legal machine and bytes.
use mathlib.Core.Path.{◌≡◌, refl, ap, sym, ◌∙◌}
use mathlib.Core.List.{List, [], ◌∷◌}
use Prim.Native.Nat.{ℕ, zero, suc, ◌+◌, ◌≤◌, ◌<◌}
use native.Mathlib.Omega.{arith}
use lib.Dec.{eqb, ltb, leb, leb→le}
use lib.ListN.{set}
use borrow.Author.Tests.{eqb-true}
use Rattle.std.specs.Prelude.{Option, Some, None}
use Rattle.word.specs.Words.{plus}
use Rattle.word.proofs.Computed.{by_test, and_left, and_right}
use Rattle.word.proofs.Iterate.{iter_zero}
use Rattle.opcodes.specs.Map.{entry_of}
use Rattle.opcodes.specs.declared.Kind.{Kind}
use Rattle.machine.specs.Memory.{program_byte, data_start, data_stored, stored_from, stored_in, list_of}
use Rattle.machine.specs.Clock.{cycle_of, span_of}
use Rattle.machine.specs.Legal.{Legal}
use Rattle.machine.specs.declared.Machine.{Machine}
use Rattle.machine.specs.declared.Pins.{Pins}
use Rattle.machine.specs.Memory.{Stores}
use Rattle.machine.proofs.Lens.{span_within}
use Rattle.machine.proofs.Legal.{LegalPins, AllBytes, span_legal}
use Rattle.deeds.proofs.Fits.{AllRead}
use Rattle.execute.specs.Execute.{Execution, refused_of, execute_of}
use Rattle.execute.proofs.Legal.{FitStores, Sound, execute_sound}
use Rattle.execute.proofs.Theorems.{undefined_refused, costs_6_to_20}
use Rattle.interrupts.specs.Edges.{compared_of}
use Rattle.interrupts.specs.Grants.{grant_of}
use Rattle.interrupts.proofs.Legal.{compared_legal, compared_ends, entered_legal, entered_fits}
use Rattle.step.specs.Step.{Progress, Action, granted_or, act_on, action_of, clocked_on, step_of}
use Rattle.step.specs.Run.{nothing_done}

-- ---- data memory: bytes stored leave bytes
set_read : (l : List ℕ) (a v : ℕ) → AllRead l → v < 256 → AllRead (set l a v)
set_read [] a v all h i = all i
set_read (x ∷ xs) zero v all h zero = h
set_read (x ∷ xs) zero v all h (suc i) = all (suc i)
set_read (x ∷ xs) (suc a) v all h zero = all zero
set_read (x ∷ xs) (suc a) v all h (suc i) = set_read xs a v (λ j. all (suc j)) h i

stored_byte : (kind : ℕ) (mem : List ℕ) (a v : ℕ) → AllRead mem → v < 256 → AllRead (data_stored kind mem a v)
unfolding data_stored
stored_byte kind mem a v all h = by_test AllRead (ltb a (data_start kind)) (λ t. all) (λ t. set_read mem a v all h)

from_read : (kind : ℕ) (mem : List ℕ) (a : ℕ) (vs : List ℕ) → AllRead mem → AllBytes vs → AllRead (stored_from kind mem a vs)
from_read kind mem a [] all h = all
from_read kind mem a (v ∷ vs) all h = from_read kind (data_stored kind mem a v) (plus a 1) vs (stored_byte kind mem a v all h.0) h.1

pub stored_read : (kind : ℕ) (mem : List ℕ) (s : Stores) → AllRead mem → FitStores s → AllRead (stored_in kind mem s)
unfolding stored_in
stored_read kind mem None all f = all
stored_read kind mem (Some (a, b)) all f = from_read kind mem a (list_of b) all f.1

-- ---- what is done
-- it is not refused, and then costs 6 to 63 cycles, or it is
abbrev Costs : Execution → Type 0
Costs x = x.refusal ≡ 0 → (6 ≤ x.cycles) × (x.cycles ≤ 63)

five_not_0 : {A : Type 0} → ◌≡◌ {A = ℕ} 5 0 → A
five_not_0 e = absurd (omega arith)

module _ (p : Pins) (image mem : List ℕ) where
  execute_costs : (m : Machine) → AllRead image → Costs (execute_of p image mem m)
  execute_costs m all = go (entry_of (program_byte image m.pc)) refl
    where
      go : (e : Option Kind) → entry_of (program_byte image m.pc) ≡ e → Costs (execute_of p image mem m)
      go None e d = five_not_0 (sym (ap (λ (x : Execution). x.refusal) (undefined_refused p image mem m e)) ∙ d)
      go (Some k) e d = let c = costs_6_to_20 p image mem m all e in (c.0, omega (arith, c.1))

  pub granted_costs : (m : Machine) (g : Option ℕ) → Legal m → AllRead image → Costs (granted_or p image mem m g)
  unfolding granted_or
  granted_costs m None l all = execute_costs m all
  granted_costs m (Some n) l all =
      λ d. (leb→le 6 m.cost (and_left (leb 6 m.cost) (leb m.cost 63) l.cost), leb→le m.cost 63 (and_right (leb 6 m.cost) (leb m.cost 63) l.cost))

  pub granted_sound : (m : Machine) (g : Option ℕ) → Legal m → LegalPins p → AllRead image → AllRead mem → Sound (granted_or p image mem m g)
  unfolding granted_or
  granted_sound m None l lp li lm = execute_sound p image mem m l lp li lm
  granted_sound m (Some n) l lp li lm = record { legal = entered_legal image n l li; fit = entered_fits m image n l }

-- an action is refused, and is nothing at all, or isn't
pub data Act (m : Machine) (a : Action) : Type 0 where
  refused : a ≡ record { done = refused_of m; ends1 = 0 } → Act m a
  done : a.done.refusal ≡ 0 → 6 ≤ a.done.cycles → a.done.cycles ≤ 63 → a.ends1 ≤ 1 → Sound a.done → Act m a

pub act_good : (p : Pins) (image mem : List ℕ) (m : Machine) → Legal m → LegalPins p → AllRead image → AllRead mem → Act m (action_of p image mem m)
unfolding action_of act_on
act_good p image mem m l lp li lm =
    let c = compared_of m p.port3 in
    let x = granted_or p image mem c.machine (grant_of c.machine) in
    let lc = compared_legal p.port3 l lp.port3_byte in
    by_test (Act m) (eqb x.refusal 0)
    (λ t.
    let d = eqb-true x.refusal 0 t in
    let k = granted_costs p image mem c.machine (grant_of c.machine) lc li d in
    done d k.0 k.1 (compared_ends m p.port3) (granted_sound p image mem c.machine (grant_of c.machine) lc lp li lm))
    (λ t. refused refl)

-- ---- a step
-- one that was taken
pub record Taken (s : Progress) : Type 0 where
  pub not_refused : s.refusal ≡ 0
  pub costs_low : 6 ≤ s.cycles
  pub costs_high : s.cycles ≤ 63
  pub ends0_few : s.ends0 ≤ s.cycles
  pub ends1_few : s.ends1 ≤ s.cycles + 1
  pub legal : Legal s.machine
  pub bytes : AllRead s.memory

pub data Good (m : Machine) (mem : List ℕ) (s : Progress) : Type 0 where
  refused : s ≡ nothing_done 5 m mem → Good m mem s
  taken : Taken s → Good m mem s

-- a refusal costs no cycle
pub unclocked : (m : Machine) (mem : List ℕ) → clocked_on m mem (record { done = refused_of m; ends1 = 0 }) ≡ nothing_done 5 m mem
unfolding clocked_on span_of stored_in
unclocked m mem = rw (iter_zero cycle_of)

pub clocked_good : (m : Machine) (mem : List ℕ) (a : Action) → AllRead mem → Act m a → Good m mem (clocked_on m mem a)
unfolding clocked_on
clocked_good m mem a lm (refused e) = refused (ap (clocked_on m mem) e ∙ unclocked m mem)
clocked_good m mem a lm (done d low high few sound) =
    let l = sound.legal in
    let w = span_within a.done.machine l.file.long (l.file.bytes 0xF1) a.done.cycles in
    taken
    (record {
      not_refused = d;
      costs_low = low;
      costs_high = high;
      ends0_few = w.0;
      ends1_few = omega (arith, few, w.1);
      legal = span_legal a.done.cycles l;
      bytes = stored_read m.kind mem a.done.stores lm sound.fit;
    })

pub step_good : (p : Pins) (image mem : List ℕ) (m : Machine) → Legal m → LegalPins p → AllRead image → AllRead mem → Good m mem (step_of p image mem m)
unfolding step_of
step_good p image mem m l lp li lm = clocked_good m mem (action_of p image mem m) lm (act_good p image mem m l lp li lm)
