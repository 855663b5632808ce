-- Where no pin fell, comparing the pins changes the last pins alone.
use mathlib.Core.Path.{◌≡◌, refl, ap₂, sym, ◌∙◌}
use mathlib.Core.Bool.{Bool, true, false, not, ◌&&◌, ◌||◌}
use Prim.Native.Nat.{ℕ, zero, suc, ◌-◌, ◌/◌, ◌%◌, ◌<◌}
use native.Mathlib.Omega.{arith}
use lib.Bits.{bit_and}
use lib.Dec.{eqb}
use lib.ListN.{length}
use Rattle.word.specs.Fields.{is_set}
use Rattle.word.proofs.Computed.{agree, agree3}
use Rattle.timers.specs.Requests.{latched_if}
use Rattle.timers.specs.Clock.{begun}
use Rattle.machine.specs.State.{held, placed, with_last3, with_released, with_port}
use Rattle.machine.specs.Clock.{moving_of, moved_to, counts_at}
use Rattle.machine.specs.declared.Machine.{Machine}
use Rattle.machine.proofs.Lens.{put_own, put_irq, put_other}
use Rattle.interrupts.specs.Edges.{Comparison, fell, latched_by, started_by, moved_by_edges, compared_of}
use Rattle.interrupts.specs.ForCode.{any_fell}

-- the four pins are the lower four bits
low_fell : (last given : ℕ) (n : ℕ) → n < 4 → fell n last given ≡ fell n (last % 16) (given % 16)
unfolding fell
low_fell last given n h = ap₂ (λ (a b : Bool). a && not b) (low last n h) (low given n h)
  where
    low : (v n : ℕ) → n < 4 → is_set n v ≡ is_set n (v % 16)
    low v zero h = let e : v / 1 % 2 ≡ v % 16 / 1 % 2 = omega arith in rw e
    low v (suc zero) h = let e : v / 2 % 2 ≡ v % 16 / 2 % 2 = omega arith in rw e
    low v (suc (suc zero)) h = let e : v / 4 % 2 ≡ v % 16 / 4 % 2 = omega arith in rw e
    low v (suc (suc (suc zero))) h = let e : v / 8 % 2 ≡ v % 16 / 8 % 2 = omega arith in rw e
    low v (suc (suc (suc (suc n)))) h = absurd (omega arith)

pub none_fell : (last given : ℕ) → any_fell last given ≡ false → (n : ℕ) → n < 4 → fell n last given ≡ false
unfolding any_fell fell
none_fell last given e n h =
    let l : last % 16 % 16 ≡ last % 16 = omega arith in
    let g : given % 16 % 16 ≡ given % 16 = omega arith in
    let none_here : any_fell (last % 16) (given % 16) ≡ false = rw (l, g) e in
    low_fell last given n h
    ∙ left_out (any_fell (last % 16) (given % 16)) (fell n (last % 16) (given % 16)) none_here
    (agree3 (λ i j k. any_fell j k || not (fell i j k)) (λ i j k. true) 4 16 16 refl n (last % 16) (given % 16) h (omega arith) (omega arith))
  where
    left_out : (a b : Bool) → a ≡ false → a || not b ≡ true → b ≡ false
    left_out a true d f = sym (rw d at f)
    left_out a false d f = refl

-- so comparing the pins moves nothing, and makes them the last
nothing_moved : (m : Machine) (given : ℕ) → any_fell m.last3 given ≡ false → moved_by_edges m given ≡ begun (moving_of m)
unfolding moved_by_edges latched_by latched_if started_by
nothing_moved m given e =
    rw (
      none_fell m.last3 given e 0 (omega arith),
      none_fell m.last3 given e 1 (omega arith),
      none_fell m.last3 given e 2 (omega arith),
      none_fell m.last3 given e 3 (omega arith),
    )

pub steady : (m : Machine) (given : ℕ) → held m 0xF1 < 256 → any_fell m.last3 given ≡ false
    → ◌≡◌ {A = Comparison} (record { machine = with_last3 m given; ends1 = 0 }) (compared_of m given)
unfolding compared_of
steady m given h e = rw (nothing_moved m given e, put_own m h)

-- and pins that are the last already change nothing
same_steady : (x : ℕ) → any_fell x x ≡ false
unfolding any_fell
same_steady x = agree (λ i. not (eqb (bit_and i (15 - i)) 0)) (λ i. false) 16 refl (x % 16) (omega arith)

pub compared_again : (m : Machine) (given : ℕ) → held m 0xF1 < 256 → m.last3 ≡ given → compared_of m given ≡ record { machine = m; ends1 = 0 }
unfolding with_last3
compared_again m given h e = rw (← e) (sym (steady m m.last3 h (same_steady m.last3)))

-- after which they are the last
pub compared_last : (m : Machine) (given : ℕ) → (compared_of m given).machine.last3 ≡ given
unfolding compared_of with_last3
compared_last m given = refl

-- IRQ then
pub requests_seen : (m : Machine) (given : ℕ) → length m.regs ≡ 256 → held m 0xF1 < 256
    → held (compared_of m given).machine 0xFA ≡ (moved_by_edges m given).moving.lines.requests.irq
unfolding compared_of with_last3
requests_seen m given long h = put_irq m long h (moved_by_edges m given).moving

-- what comparing the pins leaves: the program counter, type and entry cost, and every place but TMR and IRQ
pub record Left (m n : Machine) : Type 0 where
  pub pc_left : n.pc ≡ m.pc
  pub kind_left : n.kind ≡ m.kind
  pub cost_left : n.cost ≡ m.cost
  pub place_left : (a : ℕ) → (a ≡ 0xF1 → ⊥) → (a ≡ 0xFA → ⊥) → held n a ≡ held m a

pub compared_leaves : (m : Machine) (given : ℕ) → length m.regs ≡ 256 → held m 0xF1 < 256 → Left m (compared_of m given).machine
unfolding compared_of with_last3 moved_to placed counts_at with_released with_port
compared_leaves m given long h =
    record { pc_left = refl; kind_left = refl; cost_left = refl; place_left = put_other m long h (moved_by_edges m given).moving }
