-- Cycles are ticks of the divider, and ticks of both timers are ticks of each. Nothing here looks into a tick or an end.
use mathlib.Core.Path.{◌≡◌, refl, ap, sym, ◌∙◌}
use mathlib.Core.Bool.{false}
use Prim.Native.Nat.{ℕ, zero, suc, ◌+◌, ◌/◌, ◌%◌, ◌<◌}
use native.Mathlib.Decide.{dec_lt}
use native.Mathlib.Omega.{arith}
use lib.Dec.{eqb}
use borrow.Author.Tests.{ne_eqb}
use Rattle.word.specs.Iter.{iter}
use Rattle.std.specs.Prelude.{Option, Some, None, IfSome}
use Rattle.timers.specs.Timer.{moves}
use Rattle.timers.specs.Clock.{tick_both, cycle, cycles, begun, at_divider, end_of, end0_of, LegalSetting, LegalMoving}
use Rattle.timers.specs.declared.Timer.{Timer}
use Rattle.timers.specs.declared.Setup.{Setup}
use Rattle.timers.specs.declared.Counting.{Counting}
use Rattle.timers.specs.declared.clock.Counts.{Counts}
use Rattle.timers.specs.declared.Source.{Source}
use Rattle.timers.specs.declared.Source.TheVariants.{Divider}
use Rattle.timers.specs.declared.Setting.{Setting}
use Rattle.timers.specs.declared.Moving.{Moving}
use Rattle.timers.specs.declared.Spanned.{Spanned}
use Rattle.word.proofs.Iterate.{iter_zero, iter_suc, iter_both}
use Rattle.timers.proofs.Division.{at, ticks_zero, ticks_suc, ticks_few}
use Rattle.timers.proofs.Ends.{ends_swap}
use Rattle.timers.specs.ForCode.{more, ticks, few_of, counts_of, few_cycles}

-- where no count ends, the counts come to these, and nothing else moves
abbrev pub counting : Moving → Counts → Moving
counting m x =
    record {
      divider = x.divider;
      t0 = record { timer = x.t0; enabled = m.t0.enabled };
      t1 = record { timer = x.t1; enabled = m.t1.enabled };
      lines = m.lines;
    }

module _ (s : Setting) where
  -- the ticks of both timers are the ticks of each, with what the ends did
  abbrev pub apart : Source → Moving → ℕ → Spanned
  apart by m k =
      let a0 = ticks by s.t0 k m.t0 in
      let a1 = ticks by s.t1 k m.t1 in
      record {
        moving =
            record {
              divider = m.divider;
              t0 = a0.counting;
              t1 = a1.counting;
              lines = iter a1.ends (end_of s.t1) (iter a0.ends (end0_of s.port s.t0) m.lines);
            };
        ends0 = a0.ends;
        ends1 = a1.ends;
      }

  apart_zero : (by : Source) (m : Moving) → begun m ≡ apart by m 0
  apart_zero by m = rw (ticks_zero by s.t0 m.t0, ticks_zero by s.t1 m.t1, iter_zero (end_of s.t1), iter_zero (end0_of s.port s.t0))

  apart_suc : (by : Source) (m : Moving) (k : ℕ) → tick_both by s (apart by m k) ≡ apart by m (suc k)
  unfolding tick_both more
  apart_suc by m k =
      rw (ticks_suc by s.t0 k m.t0, ticks_suc by s.t1 k m.t1, iter_both (end0_of s.port s.t0) (end_of s.t1) (ends_swap s.port s.t0 s.t1))

  pub ticks_apart : (by : Source) (m : Moving) (k : ℕ) → iter k (tick_both by s) (begun m) ≡ apart by m k
  ticks_apart by m zero = iter_zero (tick_both by s) (begun m) ∙ apart_zero by m
  ticks_apart by m (suc k) = iter_suc (tick_both by s) k (begun m) ∙ ap (tick_both by s) (ticks_apart by m k) ∙ apart_suc by m k

  -- a cycle that only counts, and one that ticks
  counts_on : (x : Spanned) (d e : ℕ) → e ≡ (d + 1) % 4 → 0 < e → cycle s (at_divider x d) ≡ at_divider x e
  unfolding cycle
  counts_on x d e h l =
      let other : eqb e 0 ≡ false = ne_eqb e 0 (λ q. omega arith) in
      rw (← h, other)

  comes_round : (x : Spanned) (d : ℕ) → 0 ≡ (d + 1) % 4 → cycle s (at_divider x d) ≡ at_divider (tick_both Divider s x) 0
  unfolding cycle tick_both
  comes_round x d h = rw (← h)

  same : (x : Spanned) (q q' d d' : ℕ) → q ≡ q' → d ≡ d' → at_divider (iter q (tick_both Divider s) x) d ≡ at_divider (iter q' (tick_both Divider s) x) d'
  same x q q' d d' hq hd = rw (hq, hd)

  -- n cycles are as many ticks as the divider comes round
  pub cycles_are_ticks : (x : Spanned) → x.moving.divider < 4 → (n : ℕ)
      → iter n (cycle s) x ≡ at_divider (iter ((x.moving.divider + n) / 4) (tick_both Divider s) x) ((x.moving.divider + n) % 4)
  cycles_are_ticks x h zero =
      let d = x.moving.divider in
      iter_zero (cycle s) x
      ∙ sym (ap (λ (y : Spanned). at_divider y d) (iter_zero (tick_both Divider s) x))
      ∙ same x 0 ((d + 0) / 4) d ((d + 0) % 4) (omega arith) (omega arith)
  cycles_are_ticks x h (suc n) =
      iter_suc (cycle s) n x ∙ ap (cycle s) (cycles_are_ticks x h n) ∙ go (dec_lt 0 ((x.moving.divider + suc n) % 4))
    where
      go : Dec (0 < (x.moving.divider + suc n) % 4)
          → cycle s (at_divider (iter ((x.moving.divider + n) / 4) (tick_both Divider s) x) ((x.moving.divider + n) % 4))
          ≡ at_divider (iter ((x.moving.divider + suc n) / 4) (tick_both Divider s) x) ((x.moving.divider + suc n) % 4)
      go (yes l) =
          let d = x.moving.divider in
          counts_on (iter ((d + n) / 4) (tick_both Divider s) x) ((d + n) % 4) ((d + suc n) % 4) (omega arith) l
          ∙ same x ((d + n) / 4) ((d + suc n) / 4) ((d + suc n) % 4) ((d + suc n) % 4) (omega arith) refl
      go (no l) =
          let d = x.moving.divider in
          comes_round (iter ((d + n) / 4) (tick_both Divider s) x) ((d + n) % 4) (omega arith)
          ∙ sym (ap (λ (y : Spanned). at_divider y 0) (iter_suc (tick_both Divider s) ((d + n) / 4) x))
          ∙ same x (suc ((d + n) / 4)) ((d + suc n) / 4) 0 ((d + suc n) % 4) (omega arith) (omega arith)

  -- n cycles, timer by timer
  pub cycles_apart : (m : Moving) → m.divider < 4 → (n k d : ℕ)
      → k ≡ (m.divider + n) / 4 → d ≡ (m.divider + n) % 4 → cycles s n m ≡ at_divider (apart Divider m k) d
  unfolding cycles
  cycles_apart m h n k d hk hd =
      rw (hk, hd)
      (cycles_are_ticks (begun m) h n
      ∙ ap (λ (x : Spanned). at_divider x ((m.divider + n) % 4)) (ticks_apart Divider m ((m.divider + n) / 4)))

  -- so few cycles that none does
  pub few_is : (n : ℕ) (m : Moving) → LegalSetting s → LegalMoving m → IfSome (few_cycles s n m) (λ x. cycles s n m ≡ begun (counting m x))
  unfolding few_cycles
  few_is n m ls lm =
      go (few_of (moves Divider s.t0 m.t0) s.t0.p k m.t0.timer) (few_of (moves Divider s.t1 m.t1) s.t1.p k m.t1.timer)
      (ticks_few Divider s.t0 m.t0 k ls.setup0 lm.counting0)
      (ticks_few Divider s.t1 m.t1 k ls.setup1 lm.counting1)
    where
      k : ℕ
      k = (m.divider + n) / 4

      Come : Setup → Counting → Option Timer → Type 0
      Come t c o = IfSome o (λ x. ticks Divider t k c ≡ at c x.prescaler x.counter 0)

      go : (a b : Option Timer) → Come s.t0 m.t0 a → Come s.t1 m.t1 b
          → IfSome (counts_of ((m.divider + n) % 4) a b) (λ x. cycles s n m ≡ begun (counting m x))
      go None b f g = tt
      go (Some a) None f g = tt
      go (Some a) (Some b) f g =
          rw (cycles_apart m lm.divider_high n k ((m.divider + n) % 4) refl refl, f, g, iter_zero (end0_of s.port s.t0), iter_zero (end_of s.t1))
