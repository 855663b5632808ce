-- What is done, by what is granted and by the map's entry; and what it comes to where the pins given are the last already.
use mathlib.Core.Path.{◌≡◌, refl, ap, sym, ◌∙◌, subst}
use mathlib.Core.Bool.{Bool, true, false}
use mathlib.Core.List.{List, [], ◌∷◌}
use Prim.Native.Nat.{ℕ, zero, suc, ◌<◌}
use native.Mathlib.Nat.{zero-add}
use native.Mathlib.Omega.{arith}
use borrow.Author.Tests.{eqb-true}
use lib.Dec.{T, eqb}
use lib.ListN.{get_or}
use Rattle.std.specs.Prelude.{Option, Some, None}
use Rattle.word.proofs.Computed.{by_test}
use Rattle.opcodes.specs.Map.{entry_of}
use Rattle.opcodes.specs.declared.Kind.{Kind}
use Rattle.machine.specs.State.{held}
use Rattle.machine.specs.Memory.{program_byte, stored_in}
use Rattle.machine.specs.Clock.{Ran, span_of}
use Rattle.machine.specs.Legal.{Legal}
use Rattle.machine.specs.declared.Machine.{Machine}
use Rattle.machine.specs.declared.Pins.{Pins}
use Rattle.machine.proofs.Whole.{span_last3}
use Rattle.machine.specs.ForCode.{Left, stacked}
use Rattle.deeds.proofs.Fits.{AllRead}
use Rattle.execute.specs.Execute.{Execution, refused_of, code_at, perform_of, execute_as, execute_of}
use Rattle.execute.specs.ForCode.{Performed, performed, performed_by}
use Rattle.execute.proofs.Theorems.{undefined_refused, defined_done}
use Rattle.execute.proofs.Leaves.{execute_leaves}
use Rattle.interrupts.specs.Edges.{compared_of}
use Rattle.interrupts.specs.Grants.{granted, grant_of}
use Rattle.interrupts.specs.Entry.{entered_of}
use Rattle.interrupts.proofs.Steady.{compared_leaves, compared_again, compared_last}
use Rattle.interrupts.proofs.Legal.{entered_leaves}
use Rattle.step.specs.Step.{Progress, Action, granted_or, act_on, action_of, clocked_on, step_of}
use Rattle.step.specs.Run.{nothing_done}
use Rattle.step.proofs.Good.{unclocked}

-- the bytes of a slice, read past its end too
pub read_any : (l : List ℕ) → ((i : ℕ) → get_or l i 0 < 256) → AllRead l
read_any [] f i = omega arith
read_any (x ∷ xs) f zero = f zero
read_any (x ∷ xs) f (suc i) = read_any xs (λ j. f (suc j)) i

-- an instruction at a known program counter
executed_at : (p : Pins) (image mem : List ℕ) (m : Machine) (pc : ℕ) → m.pc ≡ pc
    → execute_of p image mem m ≡ execute_as p image mem m (entry_of (code_at image pc).op) (code_at image pc)
unfolding execute_of
executed_at p image mem m pc e = rw (← e)

module _ (p : Pins) (image mem : List ℕ) (m : Machine) (l : Legal m) where
  at_same : execute_of p image mem (compared_of m p.port3).machine
      ≡ execute_as p image mem (compared_of m p.port3).machine (entry_of (code_at image m.pc).op) (code_at image m.pc)
  at_same =
      executed_at p image mem (compared_of m p.port3).machine m.pc
      (compared_leaves m p.port3 l.file.long (l.file.bytes 0xF1)).pc_left

  pub blank_refused : grant_of (compared_of m p.port3).machine ≡ None → entry_of (code_at image m.pc).op ≡ None
      → action_of p image mem m ≡ record { done = refused_of m; ends1 = 0 }
  unfolding action_of granted_or act_on execute_as
  blank_refused g e = rw (g, at_same, e)

  pub kind_taken : {k : Kind} → grant_of (compared_of m p.port3).machine ≡ None → entry_of (code_at image m.pc).op ≡ Some k
      → (action_of p image mem m).done.refusal ≡ 0
  unfolding action_of granted_or act_on execute_as perform_of
  kind_taken g e = rw (g, at_same, e)

  pub request_taken : {n : ℕ} → grant_of (compared_of m p.port3).machine ≡ Some n → (action_of p image mem m).done.refusal ≡ 0
  unfolding action_of granted_or act_on
  request_taken g = rw g

-- what is granted is told by IMR and IPR as they stand
pub granted_is : (p : Pins) (m : Machine) → Legal m
    → granted (held (compared_of m p.port3).machine 0xFA) (held m 0xFB) (held m 0xF9) ≡ grant_of (compared_of m p.port3).machine
unfolding grant_of
granted_is p m l =
    let left = compared_leaves m p.port3 l.file.long (l.file.bytes 0xF1) in
    rw (left.place_left 0xFB (omega arith) (omega arith), left.place_left 0xF9 (omega arith) (omega arith))

-- what is left when a request was entered
pub entered_left : (p : Pins) (image mem : List ℕ) (m : Machine) (n : ℕ) (l : Left) → l ≡ stacked m.kind mem (entered_of image m n)
    → performed l.machine l.memory m.cost ≡ performed_by m mem (granted_or p image mem m (Some n))
unfolding granted_or
entered_left p image mem m n l e = rw e

-- ---- on pins that are the last already
module _ (p : Pins) (image mem : List ℕ) (m : Machine) where
  -- what is done
  abbrev pub done_on : Execution
  done_on = granted_or p image mem m (grant_of m)

  executed_refused : eqb (execute_of p image mem m).refusal 0 ≡ false → refused_of m ≡ execute_of p image mem m
  executed_refused t = go (entry_of (program_byte image m.pc)) refl
    where
      go : (e : Option Kind) → entry_of (program_byte image m.pc) ≡ e → refused_of m ≡ execute_of p image mem m
      go None e = sym (undefined_refused p image mem m e)
      go (Some k) e = let d : eqb (execute_of p image mem m).refusal 0 ≡ true = rw (defined_done p image mem m e) in absurd (subst T (sym d ∙ t) tt)

  -- where it is refused, it is nothing at all
  pub refused_is : (g : Option ℕ) → eqb (granted_or p image mem m g).refusal 0 ≡ false → refused_of m ≡ granted_or p image mem m g
  unfolding granted_or
  refused_is None t = executed_refused t
  refused_is (Some n) t = absurd (subst T t tt)

  module _ (l : Legal m) (e : m.last3 ≡ p.port3) where
    again : compared_of m p.port3 ≡ record { machine = m; ends1 = 0 }
    again = compared_again m p.port3 (l.file.bytes 0xF1) e

    pub action_is : action_of p image mem m ≡ record { done = done_on; ends1 = 0 }
    unfolding action_of act_on
    action_is =
        rw again
        (by_test (λ (a : Action). ◌≡◌ {A = Action} a (record { done = done_on; ends1 = 0 })) (eqb done_on.refusal 0)
        (λ t. refl)
        (λ t. ap (λ (x : Execution). record { done = x; ends1 = 0 }) (refused_is (grant_of m) t)))

    -- a step, as the code has it: x is what was left of it before the clock, r the machine after it
    module _ (li : AllRead image) (x : Performed) (i : x ≡ performed_by m mem done_on) where
      clocked : step_of p image mem m ≡ clocked_on m mem (record { done = done_on; ends1 = 0 })
      unfolding step_of
      clocked = ap (clocked_on m mem) action_is

      pub step_refused : eqb x.refusal 0 ≡ false → nothing_done x.refusal x.machine x.memory ≡ step_of p image mem m
      unfolding stored_in
      step_refused t =
          let same : refused_of m ≡ done_on = refused_is (grant_of m) (sym (ap (λ (y : Performed). eqb y.refusal 0) i) ∙ t) in
          ap (λ (y : Performed). nothing_done y.refusal y.machine y.memory) (i ∙ ap (performed_by m mem) (sym same))
          ∙ sym (clocked ∙ ap (λ (y : Execution). clocked_on m mem (record { done = y; ends1 = 0 })) (sym same) ∙ unclocked m mem)

      pub step_taken : (r : Ran) → x.refusal ≡ 0 → r ≡ span_of x.cycles x.machine
          → ◌≡◌ {A = Progress} (record { refusal = 0; cycles = x.cycles; ends0 = r.ends0; ends1 = r.ends1; machine = r.machine; memory = x.memory }) (step_of p image mem m)
      unfolding clocked_on
      step_taken r z s =
          let none : done_on.refusal ≡ 0 = sym (ap (λ (y : Performed). y.refusal) i) ∙ z in
          rw (clocked, s, i, zero-add (span_of done_on.cycles done_on.machine).ends1, none)

-- ---- the last pins
-- what is done on compared pins, where it is not refused
pub action_taken : (p : Pins) (image mem : List ℕ) (m : Machine) → (action_of p image mem m).done.refusal ≡ 0
    → action_of p image mem m ≡ record { done = done_on p image mem (compared_of m p.port3).machine; ends1 = (compared_of m p.port3).ends1 }
unfolding action_of act_on
action_taken p image mem m d =
    let c = compared_of m p.port3 in
    let x = done_on p image mem c.machine in
    by_test (λ (a : Action). a.done.refusal ≡ 0 → ◌≡◌ {A = Action} a (record { done = x; ends1 = c.ends1 })) (eqb x.refusal 0)
    (λ t z. refl)
    (λ t z. absurd (omega (arith, z)))
    d

-- what is done leaves them
pub done_leaves : (p : Pins) (image mem : List ℕ) (m : Machine) (g : Option ℕ) → (granted_or p image mem m g).machine.last3 ≡ m.last3
unfolding granted_or
done_leaves p image mem m None = (execute_leaves p image mem m).last3_left
done_leaves p image mem m (Some n) = entered_leaves m image n

-- so after a step that is not refused they are those given
pub step_last : (p : Pins) (image mem : List ℕ) (m : Machine) → (step_of p image mem m).refusal ≡ 0 → (step_of p image mem m).machine.last3 ≡ p.port3
unfolding step_of clocked_on
step_last p image mem m d =
    let c = compared_of m p.port3 in
    let x = done_on p image mem c.machine in
    rw (action_taken p image mem m d)
    (span_last3 x.cycles x.machine ∙ done_leaves p image mem c.machine (grant_of c.machine) ∙ compared_last m p.port3)
