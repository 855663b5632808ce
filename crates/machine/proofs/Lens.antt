-- What cycles move of a machine: what is put back is seen, what the timers read stays, the last put counts, and what is seen, put back,
-- is the machine itself. So n cycles of a machine are n cycles of what they move, put back once.
use mathlib.Core.Path.{◌≡◌, refl, ap, sym, ◌∙◌}
use mathlib.Core.Bool.{Bool, true, false}
use Prim.Native.Nat.{ℕ, zero, suc, ◌≤◌, ◌<◌}
use native.Mathlib.Omega.{arith}
use lib.ListN.{length}
use lib.Bits.{bit_and}
use Rattle.word.proofs.Computed.{made, agree}
use Rattle.word.specs.Iter.{iter}
use Rattle.timers.specs.Control.{setting_of, enable0, enable1, tout_mode, tin_mode}
use Rattle.timers.specs.Clock.{cycle, cycles, begun, LegalSetting, LegalMoving}
use Rattle.timers.specs.declared.Moving.{Moving}
use Rattle.timers.specs.declared.Setting.{Setting}
use Rattle.timers.specs.declared.Spanned.{Spanned}
use Rattle.std.specs.Prelude.{IfSome}
use Rattle.std.proofs.lemmas.Option.{IfSome_then}
use Rattle.timers.proofs.Cycles.{counting, few_is}
use Rattle.timers.proofs.Theorems.{cycles_within}
use Rattle.machine.specs.State.{placed_in, held, placed, with_released, with_port}
use Rattle.machine.specs.Clock.{Ran, control_with, control_of, moving_of, enabling, counts_at, moved_to, seen, shown, cycle_of, span_of}
use Rattle.machine.specs.declared.Machine.{Machine}
use Rattle.machine.proofs.Places.{place_long, held_same, held_other, place_own, places_again}
use Rattle.timers.specs.ForCode.{few_cycles}

-- a rule of a byte and two truth values, computed at all of them
pub every : {A : Type 0} (f g : Bool → Bool → ℕ → A)
    → made (f true true) 256 ≡ made (g true true) 256
    → made (f true false) 256 ≡ made (g true false) 256
    → made (f false true) 256 ≡ made (g false true) 256
    → made (f false false) 256 ≡ made (g false false) 256
    → (a b : Bool) (x : ℕ) → x < 256 → f a b x ≡ g a b x
every f g p q r s true true x h = agree (f true true) (g true true) 256 p x h
every f g p q r s true false x h = agree (f true false) (g true false) 256 q x h
every f g p q r s false true x h = agree (f false true) (g false true) 256 r x h
every f g p q r s false false x h = agree (f false false) (g false false) 256 s x h

-- TMR with other enable bits: they are seen, its modes stay, and the last ones count
module _ (a b : Bool) (x : ℕ) (h : x < 256) where
  on0 : enable0 (enabling x a b) ≡ a
  unfolding enabling
  on0 = every (λ c d y. enable0 (enabling y c d)) (λ c d y. c) refl refl refl refl a b x h

  on1 : enable1 (enabling x a b) ≡ b
  unfolding enabling
  on1 = every (λ c d y. enable1 (enabling y c d)) (λ c d y. d) refl refl refl refl a b x h

  tout_kept : tout_mode (enabling x a b) ≡ tout_mode x
  unfolding enabling
  tout_kept = every (λ c d y. tout_mode (enabling y c d)) (λ c d y. tout_mode y) refl refl refl refl a b x h

  tin_kept : tin_mode (enabling x a b) ≡ tin_mode x
  unfolding enabling
  tin_kept = every (λ c d y. tin_mode (enabling y c d)) (λ c d y. tin_mode y) refl refl refl refl a b x h

  pub rest_kept : bit_and (enabling x a b) 0xF5 ≡ bit_and x 0xF5
  unfolding enabling
  rest_kept = every (λ c d y. bit_and (enabling y c d) 0xF5) (λ c d y. bit_and y 0xF5) refl refl refl refl a b x h

enabling_again : (a b c d : Bool) (x : ℕ) → x < 256 → enabling (enabling x a b) c d ≡ enabling x c d
unfolding enabling
enabling_again a b c d x h = rw (rest_kept a b x h)

enabling_own : (x : ℕ) → x < 256 → enabling x (enable0 x) (enable1 x) ≡ x
unfolding enabling
enabling_own x h = agree (λ y. enabling y (enable0 y) (enable1 y)) (λ y. y) 256 refl x h

module _ (m : Machine) (long : length m.regs ≡ 256) (tmr_byte : held m 0xF1 < 256) (x : Moving) where
  abbrev tmr_put : ℕ
  tmr_put = enabling (held m 0xF1) x.t0.enabled x.t1.enabled

  -- the places after a put
  pub put_tmr : held (moved_to m x) 0xF1 ≡ tmr_put
  unfolding moved_to placed counts_at with_released with_port
  put_tmr =
      held_other (placed_in m.regs 0xF1 tmr_put) 0xFA 0xF1 x.lines.requests.irq (omega arith)
      ∙ held_same m.regs 0xF1 tmr_put long (omega arith)

  pub put_irq : held (moved_to m x) 0xFA ≡ x.lines.requests.irq
  unfolding moved_to placed counts_at with_released with_port
  put_irq = held_same (placed_in m.regs 0xF1 tmr_put) 0xFA x.lines.requests.irq (place_long m.regs 0xF1 tmr_put ∙ long) (omega arith)

  pub put_other : (a : ℕ) → (a ≡ 0xF1 → ⊥) → (a ≡ 0xFA → ⊥) → held (moved_to m x) a ≡ held m a
  unfolding moved_to placed counts_at with_released with_port
  put_other a n k =
      held_other (placed_in m.regs 0xF1 tmr_put) 0xFA a x.lines.requests.irq k ∙ held_other m.regs 0xF1 a tmr_put n

  -- what was put is seen
  pub put_seen : moving_of (moved_to m x) ≡ x
  unfolding moving_of moved_to placed counts_at with_released with_port
  put_seen =
      rw (put_tmr, put_irq, on0 x.t0.enabled x.t1.enabled _ tmr_byte, on1 x.t0.enabled x.t1.enabled _ tmr_byte)

  -- what the timers read stays
  pub put_setting : setting_of (control_of (moved_to m x)) ≡ setting_of (control_of m)
  unfolding setting_of control_of control_with moved_to placed counts_at with_released with_port
  put_setting =
      rw (
        put_tmr,
        tout_kept x.t0.enabled x.t1.enabled _ tmr_byte,
        tin_kept x.t0.enabled x.t1.enabled _ tmr_byte,
        put_other 0xF2 (omega arith) (omega arith),
        put_other 0xF3 (omega arith) (omega arith),
        put_other 0xF4 (omega arith) (omega arith),
        put_other 0xF5 (omega arith) (omega arith),
        put_other 0xF7 (omega arith) (omega arith),
      )

  -- the last put counts
  pub put_again : (y : Moving) → moved_to (moved_to m x) y ≡ moved_to m y
  unfolding moved_to placed counts_at with_released with_port
  put_again y =
      rw (
        put_tmr,
        enabling_again x.t0.enabled x.t1.enabled y.t0.enabled y.t1.enabled _ tmr_byte,
        places_again m.regs 0xF1 0xFA _ _ _ _ (omega arith),
      )

-- what is seen, put back, is the machine itself
pub put_own : (m : Machine) → held m 0xF1 < 256 → moved_to m (moving_of m) ≡ m
unfolding moving_of moved_to placed counts_at with_released with_port
put_own m h = rw (enabling_own _ h, place_own m.regs 0xF1, place_own m.regs 0xFA)

-- where the enable bits, the request register and the serial port are as they were, the counts alone are put
counts_alone : (m : Machine) (x : Moving) → held m 0xF1 < 256 → x.t0.enabled ≡ enable0 (held m 0xF1) → x.t1.enabled ≡ enable1 (held m 0xF1)
    → x.lines.requests ≡ (moving_of m).lines.requests → x.lines.port ≡ m.port → moved_to m x ≡ counts_at m x
unfolding moving_of moved_to placed counts_at with_released with_port
counts_alone m x h e0 e1 e p =
    rw (e0, e1, e, p, enabling_own _ h, place_own m.regs 0xF1, place_own m.regs 0xFA)

-- n cycles of a machine are n cycles of what they move, put back once
module _ (m : Machine) (long : length m.regs ≡ 256) (tmr_byte : held m 0xF1 < 256) where
  abbrev set : Setting
  set = setting_of (control_of m)

  one_more : (x : Spanned) → cycle_of (shown m x) ≡ shown m (cycle set x)
  unfolding cycle_of shown seen
  one_more x =
      rw (put_setting m long tmr_byte x.moving, put_seen m long tmr_byte x.moving, put_again m long tmr_byte x.moving)

  none_yet : ◌≡◌ {A = Ran} (record { machine = m; ends0 = 0; ends1 = 0 }) (shown m (begun (moving_of m)))
  unfolding shown
  none_yet = ap (λ (k : Machine). record { machine = k; ends0 = 0; ends1 = 0 }) (sym (put_own m tmr_byte))

  pub span_is : (n : ℕ) → span_of n m ≡ shown m (cycles set n (moving_of m))
  unfolding span_of cycles iter
  span_is zero = none_yet
  span_is (suc n) = ap cycle_of (span_is n) ∙ one_more (iter n (cycle set) (begun (moving_of m)))

  -- where they are so few that no count ends, the counts alone are put
  pub span_few : (n : ℕ) → LegalSetting set → LegalMoving (moving_of m)
      → IfSome (few_cycles set n (moving_of m)) (λ x. span_of n m ≡ record { machine = counts_at m (counting (moving_of m) x); ends0 = 0; ends1 = 0 })
  unfolding shown moving_of
  span_few n ls lm =
      IfSome_then (few_cycles set n (moving_of m)) (few_is set n (moving_of m) ls lm)
      (λ x few. rw (span_is n, few, counts_alone m (counting (moving_of m) x) tmr_byte refl refl refl refl))

  -- each cycle ends a count at most once
  pub span_within : (n : ℕ) → ((span_of n m).ends0 ≤ n) × ((span_of n m).ends1 ≤ n)
  unfolding shown
  span_within n = rw (span_is n) (cycles_within set n (moving_of m))
