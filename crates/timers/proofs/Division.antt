-- The ticks of one timer, by division: each law is about the definition's ticks one by one, from whatever source they come.
use mathlib.Core.Path.{◌≡◌, refl, ap, sym, ◌∙◌}
use mathlib.Core.Bool.{Bool, true, false}
use Prim.Native.Nat.{ℕ, zero, suc, ◌+◌, ◌-◌, ◌*◌, ◌/◌, ◌%◌, ◌≤◌, ◌<◌}
use native.Mathlib.Nat.{add-zero, sub-zero, zero-mul, mod-lt, div-lt_iff_lt-mul, mod-add-div', mul-pos}
use native.Mathlib.Omega.{arith}
use lib.Dec.{ltb}
use borrow.Author.Tests.{lt-ltb, ltb-true, ltb-false}
use Rattle.std.specs.Prelude.{Option, Some, None, IfSome}
use Rattle.std.proofs.lemmas.Option.{MatchOption-at_some, none-some}
use Rattle.word.specs.Choose.{pick}
use Rattle.word.proofs.Computed.{by_test}
use Rattle.word.specs.Iter.{iter}
use Rattle.timers.specs.Timer.{count_at, stopped, no_end, tick, moves, ticked, LegalSetup, LegalCounting}
use Rattle.timers.specs.declared.Source.{Source}
use Rattle.timers.specs.declared.Setup.{Setup}
use Rattle.timers.specs.declared.Counting.{Counting}
use Rattle.timers.specs.declared.Ticked.{Ticked}
use Rattle.word.proofs.Iterate.{iter_zero, iter_suc, iter_split, iter_fixed}
use Rattle.timers.specs.ForCode.{more, ticks, few_to, short_of, turned_of, few_of}
use Rattle.timers.specs.declared.Timer.{Timer}

-- the timer at other counts, with `e` ends behind it
abbrev pub at : Counting → ℕ → ℕ → ℕ → Ticked
at c pre cnt e = record { counting = count_at c pre cnt; ends = e }

-- a first round and the rest of `n` rounds (`omega` multiplies out, but not a difference inside a product)
first_round : (p n : ℕ) → 0 < n → p + p * (n - 1) ≡ p * n
first_round p zero h = absurd (omega arith)
first_round p (suc i) h = let g : suc i - 1 ≡ i = omega arith in rw g (omega arith)

-- no tick, and one tick more
pub ticks_zero : (by : Source) (s : Setup) (c : Counting) → ticks by s 0 c ≡ no_end c
unfolding ticks
ticks_zero by s c = iter_zero (more by s) (no_end c)

pub ticks_suc : (by : Source) (s : Setup) (k : ℕ) (c : Counting) → ticks by s (suc k) c ≡ more by s (ticks by s k c)
unfolding ticks
ticks_suc by s k c = iter_suc (more by s) k (no_end c)

-- A tick, by cases.
rests : (by : Source) (s : Setup) (c : Counting) → moves by s c ≡ false → (e : ℕ) → more by s (record { counting = c; ends = e }) ≡ record { counting = c; ends = e }
unfolding more ticked
rests by s c h e = rw (h, add-zero)

module _ (by : Source) (s : Setup) (c : Counting) (goes : moves by s c ≡ true) where
  low : (pre cnt e : ℕ) → 1 < pre → more by s (at c pre cnt e) ≡ at c (pre - 1) cnt e
  unfolding more ticked tick
  low pre cnt e h = rw (goes, lt-ltb 1 pre h, add-zero)

  drop : (cnt e : ℕ) → 1 < cnt → more by s (at c 1 cnt e) ≡ at c s.p (cnt - 1) e
  unfolding more ticked tick
  drop cnt e h = rw (goes, lt-ltb 1 cnt h, add-zero)

  reload : (e : ℕ) → s.repeats ≡ true → more by s (at c 1 1 e) ≡ at c s.p s.n (e + 1)
  unfolding more ticked tick
  reload e h = rw (goes, h)

  stop : (e : ℕ) → s.repeats ≡ false → more by s (at c 1 1 e) ≡ record { counting = stopped s.p; ends = e + 1 }
  unfolding more ticked tick
  stop e h = rw (goes, h)

  -- the prescaler falls
  falls : (k pre cnt e : ℕ) → k < pre → iter k (more by s) (at c pre cnt e) ≡ at c (pre - k) cnt e
  falls zero pre cnt e h = rw (iter_zero, sub-zero)
  falls (suc k) pre cnt e h =
      iter_suc (more by s) k (at c pre cnt e)
      ∙ ap (more by s) (falls k pre cnt e (omega arith))
      ∙ low (pre - k) cnt e (omega arith)
      ∙ ap (λ (x : ℕ). at c x cnt e) (omega arith)

  -- from a prescaler of `pre`, `pre` ticks end in the tick that moves the counter
  turns : (pre cnt e : ℕ) → 0 < pre → iter pre (more by s) (at c pre cnt e) ≡ more by s (at c 1 cnt e)
  turns zero cnt e h = absurd (omega arith)
  turns (suc j) cnt e h =
      iter_suc (more by s) j (at c (suc j) cnt e)
      ∙ ap (more by s) (falls j (suc j) cnt e (omega arith) ∙ ap (λ (x : ℕ). at c x cnt e) (omega arith))

  module _ (p_low : 0 < s.p) where
    -- whole rounds of the prescaler
    rows : (q cnt e : ℕ) → q < cnt → iter (q * s.p) (more by s) (at c s.p cnt e) ≡ at c s.p (cnt - q) e
    rows zero cnt e h = rw (zero-mul, iter_zero, sub-zero)
    rows (suc q) cnt e h =
        iter_split (more by s) (suc q * s.p) s.p (q * s.p) (omega arith) (at c s.p cnt e)
        ∙ ap (iter s.p (more by s)) (rows q cnt e (omega arith))
        ∙ turns s.p (cnt - q) e p_low
        ∙ drop (cnt - q) e (omega arith)
        ∙ ap (λ (x : ℕ). at c s.p x e) (omega arith)

    -- part of a count of `cnt` whole rounds
    pub part : (r cnt e : ℕ) → r < s.p * cnt → iter r (more by s) (at c s.p cnt e) ≡ at c (s.p - r % s.p) (cnt - r / s.p) e
    part r cnt e h =
        iter_split (more by s) r (r % s.p) (r / s.p * s.p) (sym (mod-add-div' r s.p)) (at c s.p cnt e)
        ∙ ap (iter (r % s.p) (more by s)) (rows (r / s.p) cnt e ((div-lt_iff_lt-mul p_low).1 (omega arith)))
        ∙ falls (r % s.p) s.p (cnt - r / s.p) e (mod-lt r p_low)

    -- all of a count of `suc z`, the end's tick among them
    all : (z pre e : ℕ) → 0 < pre → iter (pre + s.p * z) (more by s) (at c pre (suc z) e) ≡ more by s (at c 1 1 e)
    all zero pre e h = ap (λ (x : ℕ). iter x (more by s) (at c pre 1 e)) (omega arith) ∙ turns pre 1 e h
    all (suc z) pre e h =
        iter_split (more by s) (pre + s.p * suc z) (s.p + s.p * z) pre (omega arith) (at c pre (suc (suc z)) e)
        ∙ ap (iter (s.p + s.p * z) (more by s)) (turns pre (suc (suc z)) e h ∙ drop (suc (suc z)) e (omega arith) ∙ ap (λ (x : ℕ). at c s.p x e) (omega arith))
        ∙ all z s.p e p_low

    -- the same of a counter that is at least 1
    whole : (pre cnt e : ℕ) → 0 < pre → 0 < cnt → iter (pre + s.p * (cnt - 1)) (more by s) (at c pre cnt e) ≡ more by s (at c 1 1 e)
    whole pre zero e h k = absurd (omega arith)
    whole pre (suc z) e h k = ap (λ (x : ℕ). iter (pre + s.p * x) (more by s) (at c pre (suc z) e)) (omega arith) ∙ all z pre e h

    module _ (repeats : s.repeats ≡ true) (n_low : 0 < s.n) where
      -- whole counts of a repeating timer
      counts : (q e : ℕ) → iter (q * (s.p * s.n)) (more by s) (at c s.p s.n e) ≡ at c s.p s.n (e + q)
      counts zero e = rw (zero-mul, iter_zero, add-zero)
      counts (suc q) e =
          iter_split (more by s) (suc q * (s.p * s.n)) (s.p + s.p * (s.n - 1)) (q * (s.p * s.n)) (omega (arith, first_round s.p s.n n_low)) (at c s.p s.n e)
          ∙ ap (iter (s.p + s.p * (s.n - 1)) (more by s)) (counts q e)
          ∙ whole s.p s.n (e + q) p_low n_low
          ∙ reload (e + q) repeats
          ∙ ap (at c s.p s.n) (omega arith)

      -- from a fresh load, a repeating timer goes in whole counts and a part of one
      pub fresh : (k e : ℕ) → iter k (more by s) (at c s.p s.n e)
          ≡ at c (s.p - k % (s.p * s.n) % s.p) (s.n - k % (s.p * s.n) / s.p) (e + k / (s.p * s.n))
      fresh k e =
          iter_split (more by s) k (k % (s.p * s.n)) (k / (s.p * s.n) * (s.p * s.n)) (sym (mod-add-div' k (s.p * s.n))) (at c s.p s.n e)
          ∙ ap (iter (k % (s.p * s.n)) (more by s)) (counts (k / (s.p * s.n)) e)
          ∙ part (k % (s.p * s.n)) s.n (e + k / (s.p * s.n)) (mod-lt k (mul-pos p_low n_low))

-- What the ticks of a legal timer come to, by cases: what the code does.
pub ticks_off : (by : Source) (s : Setup) (c : Counting) (k : ℕ) → moves by s c ≡ false → ticks by s k c ≡ no_end c
unfolding ticks
ticks_off by s c k h = iter_fixed (more by s) (no_end c) (rests by s c h 0) k

module _ (by : Source) (s : Setup) (c : Counting) (goes : moves by s c ≡ true) (k : ℕ) where
  -- (`ticks` starts at the present counts, which is `at c c.timer.prescaler c.timer.counter 0` by computation)
  pub ticks_low : k < c.timer.prescaler → ticks by s k c ≡ at c (c.timer.prescaler - k) c.timer.counter 0
  unfolding ticks
  ticks_low h = falls by s c goes k c.timer.prescaler c.timer.counter 0 h

  module _ (ls : LegalSetup s) (lc : LegalCounting c) (past : c.timer.prescaler ≤ k) where
    -- within the present count
    pub ticks_within : k - c.timer.prescaler < s.p * (c.timer.counter - 1)
        → ticks by s k c ≡ at c (s.p - (k - c.timer.prescaler) % s.p) (c.timer.counter - 1 - (k - c.timer.prescaler) / s.p) 0
    unfolding ticks
    ticks_within h =
        iter_split (more by s) k (k - c.timer.prescaler) c.timer.prescaler (omega arith) (at c c.timer.prescaler c.timer.counter 0)
        ∙ ap (iter (k - c.timer.prescaler) (more by s)) (turns by s c goes c.timer.prescaler c.timer.counter 0 lc.prescaler_low ∙ drop by s c goes c.timer.counter 0 (two c.timer.counter h))
        ∙ part by s c goes ls.p_low (k - c.timer.prescaler) (c.timer.counter - 1) 0 h
      where
        two : (m : ℕ) → k - c.timer.prescaler < s.p * (m - 1) → 1 < m
        two zero l = absurd (omega arith)
        two (suc zero) l = absurd (omega arith)
        two (suc (suc m)) l = omega arith

    -- past the present count: the rest of the ticks go on from the end's tick
    module _ (over : s.p * (c.timer.counter - 1) ≤ k - c.timer.prescaler) where
      past_end : ticks by s k c ≡ iter (k - c.timer.prescaler - s.p * (c.timer.counter - 1)) (more by s) (more by s (at c 1 1 0))
      unfolding ticks
      past_end =
          iter_split (more by s) k (k - c.timer.prescaler - s.p * (c.timer.counter - 1)) (c.timer.prescaler + s.p * (c.timer.counter - 1)) (omega arith) (at c c.timer.prescaler c.timer.counter 0)
          ∙ ap (iter (k - c.timer.prescaler - s.p * (c.timer.counter - 1)) (more by s)) (whole by s c goes ls.p_low c.timer.prescaler c.timer.counter 0 lc.prescaler_low lc.counter_low)

      pub ticks_stops : s.repeats ≡ false → ticks by s k c ≡ record { counting = stopped s.p; ends = 1 }
      ticks_stops a =
          past_end
          ∙ ap (iter (k - c.timer.prescaler - s.p * (c.timer.counter - 1)) (more by s)) (stop by s c goes 0 a)
          ∙ iter_fixed (more by s) _ (rests by s (stopped s.p) refl 1) (k - c.timer.prescaler - s.p * (c.timer.counter - 1))

      pub ticks_repeats : s.repeats ≡ true → (o w : ℕ) → o ≡ k - c.timer.prescaler - s.p * (c.timer.counter - 1) → w ≡ s.p * s.n
          → ticks by s k c ≡ at c (s.p - o % w % s.p) (s.n - o % w / s.p) (1 + o / w)
      ticks_repeats a o w ho hw =
          rw (ho, hw)
          (past_end
          ∙ ap (iter (k - c.timer.prescaler - s.p * (c.timer.counter - 1)) (more by s)) (reload by s c goes 0 a)
          ∙ fresh by s c goes ls.p_low a ls.n_low (k - c.timer.prescaler - s.p * (c.timer.counter - 1)) 1)

-- so few ticks that the count doesn't end: what is counting has come to t
pub ticks_few : (by : Source) (s : Setup) (c : Counting) (k : ℕ) → LegalSetup s → LegalCounting c
    → IfSome (few_of (moves by s c) s.p k c.timer) (λ t. ticks by s k c ≡ at c t.prescaler t.counter 0)
unfolding few_of turned_of
ticks_few by s c k ls lc =
    by_test Come (moves by s c)
    (λ e.
    by_test Come (ltb k c.timer.prescaler) (λ h. ticks_low by s c e k (ltb-true _ _ h))
    (λ h.
    by_test Come (ltb (k - c.timer.prescaler) (s.p * (c.timer.counter - 1)))
    (λ g. ticks_within by s c e k ls lc (ltb-false _ _ h) (ltb-true _ _ g))
    (λ g. tt)))
    (λ e. ticks_off by s c k e)
  where
    Come : Option Timer → Type 0
    Come o = IfSome o (λ t. ticks by s k c ≡ at c t.prescaler t.counter 0)

-- short, and not short, with what it takes
pub few_shortly : (moving : Bool) (p k : ℕ) (t u : Timer) → short_of moving k t ≡ Some u → few_of moving p k t ≡ Some u
unfolding few_of short_of
few_shortly moving p k t u = go moving (ltb k t.prescaler)
  where
    go : (a b : Bool) → pick a (pick b (few_to (t.prescaler - k) t.counter) None) (Some t) ≡ Some u
        → pick a (pick b (few_to (t.prescaler - k) t.counter) (turned_of p k t)) (Some t) ≡ Some u
    go true true e = e
    go true false e = absurd (none-some _ e)
    go false b e = e

pub few_turned : (moving : Bool) (p k : ℕ) (t : Timer) → short_of moving k t ≡ None → few_of moving p k t ≡ turned_of p k t
unfolding few_of short_of
few_turned moving p k t = go moving (ltb k t.prescaler)
  where
    go : (a b : Bool) → pick a (pick b (few_to (t.prescaler - k) t.counter) None) (Some t) ≡ None
        → pick a (pick b (few_to (t.prescaler - k) t.counter) (turned_of p k t)) (Some t) ≡ turned_of p k t
    go true true e = absurd (none-some _ (sym e))
    go true false e = refl
    go false b e = absurd (none-some _ (sym e))

pub not_short : (moving : Bool) (k : ℕ) (t : Timer) → short_of moving k t ≡ None → t.prescaler ≤ k
unfolding short_of
not_short moving k t = go moving (ltb k t.prescaler) refl
  where
    go : (a b : Bool) → ltb k t.prescaler ≡ b → pick a (pick b (few_to (t.prescaler - k) t.counter) None) (Some t) ≡ None → t.prescaler ≤ k
    go true true h e = absurd (none-some _ (sym e))
    go true false h e = ltb-false _ _ h
    go false b h e = absurd (none-some _ (sym e))

pub is_moving : (moving : Bool) (k : ℕ) (t : Timer) → short_of moving k t ≡ None → moving ≡ true
unfolding short_of
is_moving true k t e = refl
is_moving false k t e = absurd (none-some _ (sym e))

-- and what it takes that there is an end
pub gone_round : (p k : ℕ) (t : Timer) → turned_of p k t ≡ None → p * (t.counter - 1) ≤ k - t.prescaler
unfolding turned_of
gone_round p k t = go (ltb (k - t.prescaler) (p * (t.counter - 1))) refl
  where
    go : (b : Bool) → ltb (k - t.prescaler) (p * (t.counter - 1)) ≡ b
        → pick b (few_to (p - (k - t.prescaler) % p) (t.counter - 1 - (k - t.prescaler) / p)) None ≡ None → p * (t.counter - 1) ≤ k - t.prescaler
    go true g e = absurd (none-some _ (sym e))
    go false g e = ltb-false _ _ g

pub ticks_short : (by : Source) (s : Setup) (c : Counting) (k : ℕ) (t : Timer) → LegalSetup s → LegalCounting c
    → short_of (moves by s c) k c.timer ≡ Some t → ticks by s k c ≡ at c t.prescaler t.counter 0
ticks_short by s c k t ls lc e =
    MatchOption-at_some _ _ t (few_shortly (moves by s c) s.p k c.timer t e) (ticks_few by s c k ls lc)

pub ticks_turned : (by : Source) (s : Setup) (c : Counting) (k : ℕ) (t : Timer) → LegalSetup s → LegalCounting c
    → short_of (moves by s c) k c.timer ≡ None → turned_of s.p k c.timer ≡ Some t → ticks by s k c ≡ at c t.prescaler t.counter 0
ticks_turned by s c k t ls lc e f =
    MatchOption-at_some _ _ t (few_turned (moves by s c) s.p k c.timer e ∙ f) (ticks_few by s c k ls lc)

pub ruleset by_round = (few_shortly, few_turned, not_short)

pub ruleset by_division = (ticks_short, ticks_turned, not_short, is_moving, gone_round, ticks_stops, ticks_repeats)
