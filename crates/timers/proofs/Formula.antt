-- The ends of a steady timer, by one division.
use mathlib.Core.Path.{◌≡◌, refl, ap, ap₂, sym, ◌∙◌}
use mathlib.Core.Bool.{true}
use Prim.Native.Nat.{ℕ, ◌+◌, ◌-◌, ◌*◌, ◌/◌, ◌≤◌, ◌<◌}
use native.Mathlib.Nat.{add-mul-div_left, add-mul-mod_self_left, div-eq_of_lt, mod-eq_of_lt, mul-le-mul_left, div-div-eq-div-mul}
use native.Mathlib.Omega.{arith}
use Rattle.word.specs.Iter.{iter}
use Rattle.timers.specs.Control.{setting_of, ControlBytes}
use Rattle.timers.specs.Timer.{moves, no_end, LegalSetup, LegalCounting}
use Rattle.timers.specs.Clock.{cycles, Which, T0, T1, setup_for, counting_for, ends_for, gone, Steady, LegalSetting, LegalMoving}
use Rattle.timers.specs.declared.Control.{Control}
use Rattle.timers.specs.declared.Source.TheVariants.{Divider}
use Rattle.timers.specs.declared.Setup.{Setup}
use Rattle.timers.specs.declared.Counting.{Counting}
use Rattle.timers.specs.declared.Ticked.{Ticked}
use Rattle.timers.specs.declared.Setting.{Setting}
use Rattle.timers.specs.declared.Moving.{Moving}
use Rattle.word.proofs.Iterate.{iter_add}
use Rattle.timers.proofs.Division.{at, part, fresh}
use Rattle.timers.proofs.Cycles.{cycles_apart}
use Rattle.timers.proofs.Legal.{setting_legal}
use Rattle.timers.specs.ForCode.{more, ticks}

-- the ticks already gone
abbrev since : Setup → Counting → ℕ
since s c = (s.p - c.timer.prescaler) + s.p * (s.n - c.timer.counter)

module _ (s : Setup) (c : Counting) (ls : LegalSetup s) (lc : LegalCounting c) (st : Steady s c) where
  since_below : since s c < s.p * s.n
  since_below =
      let h : s.n - c.timer.counter + 1 ≤ s.n = omega arith in
      omega (arith, mul-le-mul_left s.p h)

  goes : moves Divider s c ≡ true
  goes = rw (st.clocked, st.enabled)

  -- a fresh timer comes to the present counts in that many ticks
  reached : iter (since s c) (more Divider s) (at c s.p s.n 0) ≡ no_end c
  reached =
      let h : s.p - c.timer.prescaler < s.p = omega arith in
      part Divider s c goes ls.p_low (since s c) s.n 0 since_below
      ∙ ap₂ (λ (x y : ℕ). at c (s.p - x) (s.n - y) 0)
      (add-mul-mod_self_left (s.p - c.timer.prescaler) s.p (s.n - c.timer.counter) ∙ mod-eq_of_lt h)
      (add-mul-div_left (s.p - c.timer.prescaler) (s.n - c.timer.counter) ls.p_low
      ∙ ap (λ (x : ℕ). x + (s.n - c.timer.counter)) (div-eq_of_lt h))
      ∙ ap₂ (λ (x y : ℕ). at c x y 0) (omega arith) (omega arith)

  ends_in_ticks : (k : ℕ) → (ticks Divider s k c).ends ≡ (k + since s c) / (s.p * s.n)
  unfolding ticks
  ends_in_ticks k =
      ap (λ (a : Ticked). a.ends)
      (ap (iter k (more Divider s)) (sym reached)
      ∙ sym (iter_add (more Divider s) k (since s c) (at c s.p s.n 0))
      ∙ fresh Divider s c goes ls.p_low st.repeating ls.n_low (k + since s c) 0)
      ∙ omega arith

  -- n cycles, from a divider of d
  pub ends_in_cycles : (d n : ℕ) → (ticks Divider s ((d + n) / 4) c).ends ≡ (n + gone d s c) / (4 * s.p * s.n)
  ends_in_cycles d n =
      ends_in_ticks ((d + n) / 4)
      ∙ ap (λ (x : ℕ). x / (s.p * s.n)) (omega arith)
      ∙ div-div-eq-div-mul (n + gone d s c) 4 (s.p * s.n)
      ∙ ap (λ (x : ℕ). (n + gone d s c) / x) (omega arith)

-- Demand 3's second sentence, of the definition's single cycles, for either timer.
module _ (s : Setting) (m : Moving) (ls : LegalSetting s) (lm : LegalMoving m) where
  setup_legal : (w : Which) → LegalSetup (setup_for w s)
  setup_legal T0 = ls.setup0
  setup_legal T1 = ls.setup1

  counting_legal : (w : Which) → LegalCounting (counting_for w m)
  counting_legal T0 = lm.counting0
  counting_legal T1 = lm.counting1

  ends_are : (w : Which) (n : ℕ) → ends_for w (cycles s n m) ≡ (ticks Divider (setup_for w s) ((m.divider + n) / 4) (counting_for w m)).ends
  ends_are T0 n = ap (ends_for T0) (cycles_apart s m lm.divider_high n _ _ refl refl)
  ends_are T1 n = ap (ends_for T1) (cycles_apart s m lm.divider_high n _ _ refl refl)

  pub formula : (w : Which) (n : ℕ) → Steady (setup_for w s) (counting_for w m)
      → ends_for w (cycles s n m) ≡ (n + gone m.divider (setup_for w s) (counting_for w m)) / (4 * (setup_for w s).p * (setup_for w s).n)
  formula w n st = ends_are w n ∙ ends_in_cycles (setup_for w s) (counting_for w m) (setup_legal w) (counting_legal w) st m.divider n

-- The same of what the registers say: with `span`'s contract, demand 3 of this room.
pub formula_by_registers : (c : Control) (m : Moving) → ControlBytes c → LegalMoving m → (w : Which) (n : ℕ)
    → Steady (setup_for w (setting_of c)) (counting_for w m)
    → ends_for w (cycles (setting_of c) n m)
    ≡ (n + gone m.divider (setup_for w (setting_of c)) (counting_for w m)) / (4 * (setup_for w (setting_of c)).p * (setup_for w (setting_of c)).n)
formula_by_registers c m b l w n st = formula (setting_of c) m (setting_legal c b) l w n st
