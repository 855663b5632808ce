-- The first refusal that applies, where the first ones are known; and what a loaded machine is.
use mathlib.Core.Path.{◌≡◌, ◌∙◌, refl, sym, ap}
use mathlib.Core.Bool.{Bool, true, false, ◌&&◌}
use mathlib.Core.List.{List, [], ◌∷◌, ◌++◌}
use Prim.Native.Nat.{ℕ}
use lib.Dec.{eqb}
use lib.ListN.{length}
use borrow.Author.Tests.{eqb-true, ne_eqb}
use Rattle.std.specs.Prelude.{Result, Ok, Err, IsErrAnd}
use Rattle.numbers.specs.Numbers.{number_of, answered, saved_length}
use Rattle.numbers.specs.declared.Refusal.{Refusal}
use Rattle.numbers.proofs.Refused.{numbered}
use Rattle.numbers.specs.declared.Refusal.TheVariants as refusal
use Rattle.word.specs.Choose.{pick}
use Rattle.word.proofs.Computed.{by_test}
use Rattle.machine.specs.Start.{is_kind, is_cost, new_of, made_of}
use Rattle.machine.specs.declared.Machine.{Machine}
use Rattle.saved.specs.Saved.{machine_of, legal_of, first_of, refusal_of}
use Rattle.saved.proofs.RoundTrip.{loads_long, load_refuses}
use Rattle.z8.specs.Calls.{Answer, answer, image_refusal, memory_refusal}
use Rattle.saved.specs.ForCode.{load_of}
use Rattle.z8.specs.ForCode.{admitted_of}

-- one test more counts where none before it applies
pub one_more : (l : List ℕ) (n : ℕ) → first_of (l ++ n ∷ []) ≡ pick (eqb (first_of l) 0) n (first_of l)
one_more [] n = by_test (λ (r : ℕ). r ≡ n) (eqb n 0) (λ t. sym (eqb-true n 0 t)) (λ t. refl)
one_more (a ∷ l) n =
    let q : ℕ → Type 0 = λ r. r ≡ pick (eqb (pick (eqb a 0) (first_of l) a) 0) n (pick (eqb a 0) (first_of l) a) in
    by_test q (eqb a 0) (λ t. rw t (one_more l n)) (λ t. rw (t, t))

-- ---- the two ways out of a call: where f is the first refusal that applies
module _ {A : Type 0} (f : ℕ) (l : A) (done : Answer A) where
  pub is_refused : (n : ℕ) → f ≡ n → (n ≡ 0 → ⊥) → answer n l ≡ pick (eqb f 0) done (answer f l)
  is_refused n e d = rw (e, ne_eqb n 0 d)

  pub is_done : f ≡ 0 → done ≡ pick (eqb f 0) done (answer f l)
  is_done e = rw (e)

  -- where a refusal is passed on to the caller
  pub refused_with : {X : Type 0} (r : Result X Refusal) (e : Refusal) → IsErrAnd r (λ x. x ≡ e) → f ≡ number_of e
      → answer (answered r) l ≡ pick (eqb f 0) done (answer f l)
  refused_with (Ok x) e h g = absurd h
  refused_with (Err x) e h g = rw (h, g, numbered e)

-- ---- what a saved machine loads to
pub record Loaded (s : List ℕ) (m : Machine) : Type 0 where
  pub is : m ≡ machine_of s
  pub taken : refusal_of s ≡ 0
  pub long : length s ≡ saved_length

pub loads : (s : List ℕ) {m : Machine} → load_of s ≡ Ok m → Loaded s m
unfolding load_of
loads s {m} e =
    let taken : refusal_of s ≡ 0 = sym (load_refuses s) ∙ ap answered e in
    record { is = go (eqb (length s) saved_length) (legal_of s) e; taken = taken; long = loads_long s taken }
  where
    go : (b l : Bool) → pick b (pick l (Ok (machine_of s)) (Err refusal.Machine)) (Err refusal.Length) ≡ Ok m → m ≡ machine_of s
    go true true h = cc
    go true false h = cc
    go false l h = cc

pub load_refused : (s : List ℕ) {e : Refusal} → load_of s ≡ Err e → refusal_of s ≡ number_of e
load_refused s h = sym (load_refuses s) ∙ ap answered h

-- a refusal passed on has its number
pub passed_with : {X : Type 0} (r : Result X Refusal) (e : Refusal) (n : ℕ) → IsErrAnd r (λ x. x ≡ e) → n ≡ number_of e → answered r ≡ n
passed_with (Ok x) e n h g = absurd h
passed_with (Err x) e n h g = rw (h, g)

-- the machine that is made
pub made_is : (kind cost : ℕ) {m : Machine} → made_of kind cost ≡ Ok m → m ≡ new_of kind cost
unfolding made_of
made_is kind cost {m} e = go (is_kind kind && is_cost cost) e
  where
    go : (b : Bool) → pick b (Ok (new_of kind cost)) (Err refusal.Making) ≡ Ok m → m ≡ new_of kind cost
    go true h = cc
    go false h = cc

-- whether it is admitted with an image and a data memory; where one test more is made, it is the first that applies
module _ (s image memory : List ℕ) (n : ℕ) (a : n ≡ admitted_of s image memory) (next : ℕ) where
  pub not_admitted : (n ≡ 0 → ⊥) → first_of (refusal_of s ∷ image_refusal image ∷ memory_refusal memory ∷ next ∷ []) ≡ n
  unfolding admitted_of
  not_admitted d = one_more (refusal_of s ∷ image_refusal image ∷ memory_refusal memory ∷ []) next ∙ rw (← a, ne_eqb n 0 d)

  pub admitted_next : n ≡ 0 → first_of (refusal_of s ∷ image_refusal image ∷ memory_refusal memory ∷ next ∷ []) ≡ next
  unfolding admitted_of
  admitted_next z = one_more (refusal_of s ∷ image_refusal image ∷ memory_refusal memory ∷ []) next ∙ rw (← a, z)
