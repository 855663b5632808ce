-- What the control registers say is legal, and cycles, edges and writes to TMR keep what is legal.
use mathlib.Core.Path.{◌≡◌, refl}
use mathlib.Core.Bool.{Bool, true, false}
use Prim.Native.Nat.{ℕ, ◌+◌, ◌/◌, ◌%◌, ◌≤◌, ◌<◌}
use native.Mathlib.Decide.{dec_lt}
use native.Mathlib.Omega.{arith}
use native.Mathlib.Nat.{le_refl}
use lib.Dec.{T, eqb}
use lib.Bits.{bit_and}
use borrow.Author.Tests.{lt-ltb, le-ltb, eqb-false}
use Rattle.word.specs.Fields.{bit_of}
use Rattle.word.proofs.Computed.{by_test, agree}
use Rattle.timers.specs.Control.{or_highest, setup_of, setting_of, kept, ControlBytes}
use Rattle.timers.specs.Timer.{tick, moves, ticked, timer_written, LegalSetup, LegalCounting}
use Rattle.timers.specs.Requests.{requests_fit}
use Rattle.timers.specs.Clock.{tick_both, cycle, cycles, begun, at_divider, end_of, asked_for, bit_clock, end0_of, edge_of, written, LegalSetting, LegalMoving}
use Rattle.timers.specs.declared.Control.{Control}
use Rattle.timers.specs.declared.Source.{Source}
use Rattle.timers.specs.declared.Source.TheVariants.{Divider, Edges}
use Rattle.timers.specs.declared.Setup.{Setup}
use Rattle.timers.specs.declared.Counting.{Counting}
use Rattle.timers.specs.declared.Ticked.{Ticked}
use Rattle.timers.specs.declared.Lines.{Lines}
use Rattle.timers.specs.declared.Setting.{Setting}
use Rattle.timers.specs.declared.Moving.{Moving}
use Rattle.timers.specs.declared.Spanned.{Spanned}
use Rattle.word.proofs.Iterate.{iter_keeps}
use Rattle.serial.specs.Port.{port_end, LegalPort}
use Rattle.serial.specs.declared.Mode.{Mode}
use Rattle.serial.proofs.Theorems as port
use Rattle.timers.proofs.Latched.{latch_fits, if_fits}

-- a count whose field 0 stands for the highest is 1 to the highest
pub highest_low : (top field : ℕ) → 0 < top → 0 < or_highest top field
unfolding or_highest
highest_low top field h = by_test (λ (x : ℕ). 0 < x) (eqb field 0) (λ e. h) (λ e. let d : field ≡ 0 → ⊥ = eqb-false field 0 e in omega arith)

pub highest_high : (top field : ℕ) → field ≤ top → or_highest top field ≤ top
unfolding or_highest
highest_high top field h = by_test (λ (x : ℕ). x ≤ top) (eqb field 0) (λ e. le_refl top) (λ e. h)

pub ruleset highest = (highest_low, highest_high)

setup_legal : (pre start request : ℕ) (divider edges drives : Bool) → pre < 256 → start < 256 → request < 6
    → LegalSetup (setup_of pre start divider edges request drives)
unfolding setup_of
setup_legal pre start request divider edges drives hp hs hr =
    record {
      p_low = highest_low 64 (pre / 4) (omega arith);
      p_high = highest_high 64 (pre / 4) (omega arith);
      n_low = highest_low 256 start (omega arith);
      n_high = highest_high 256 start (omega arith);
      request_high = hr;
    }

pub setting_legal : (c : Control) → ControlBytes c → LegalSetting (setting_of c)
unfolding setting_of
setting_legal c b =
    record {
      setup0 = setup_legal c.pre0 c.t0 4 _ _ _ b.pre0_byte b.t0_byte (omega arith);
      setup1 = setup_legal c.pre1 c.t1 5 _ _ _ b.pre1_byte b.t1_byte (omega arith);
    }

-- what ends touch
abbrev LegalLines : Lines → Type 0
LegalLines l = T (requests_fit l.requests) × LegalPort l.port

module _ (s : Setup) (ls : LegalSetup s) where
  tick_legal : (c : Counting) → LegalCounting c → LegalCounting (tick s c).counting
  unfolding tick
  tick_legal c lc = go (dec_lt 1 c.timer.prescaler) (dec_lt 1 c.timer.counter) s.repeats refl
    where
      go : Dec (1 < c.timer.prescaler) → Dec (1 < c.timer.counter) → (b : Bool) → s.repeats ≡ b → LegalCounting (tick s c).counting
      go (yes h) d b e = rw (lt-ltb 1 c.timer.prescaler h) (omega arith)
      go (no h) (yes g) b e = rw (le-ltb 1 c.timer.prescaler (omega arith), lt-ltb 1 c.timer.counter g) (omega arith)
      go (no h) (no g) true e = rw (le-ltb 1 c.timer.prescaler (omega arith), le-ltb 1 c.timer.counter (omega arith), e) (omega arith)
      go (no h) (no g) false e = rw (le-ltb 1 c.timer.prescaler (omega arith), le-ltb 1 c.timer.counter (omega arith), e) (omega arith)

  ticked_legal : (by : Source) (c : Counting) → LegalCounting c → LegalCounting (ticked by s c).counting
  unfolding ticked
  ticked_legal by c lc = by_test (λ (a : Ticked). LegalCounting a.counting) (moves by s c) (λ e. tick_legal c lc) (λ e. lc)

  end_legal : (l : Lines) → LegalLines l → LegalLines (end_of s l)
  unfolding end_of
  end_legal l h = (latch_fits s.request l.requests ls.request_high h.0, h.1)

  end0_legal : (m : Mode) (l : Lines) → LegalLines l → LegalLines (end0_of m s l)
  unfolding end0_of bit_clock asked_for
  end0_legal m l h =
      let x = port_end m l.port in
      let asked = if_fits x.asked3 3 _ (omega arith) (if_fits x.asked4 4 l.requests (omega arith) h.0) in
      by_test LegalLines m.on (λ e. (asked, port.end_legal m l.port h.1)) (λ e. end_legal l h)

module _ (s : Setting) (ls : LegalSetting s) where
  both_legal : (by : Source) (x : Spanned) → LegalMoving x.moving → LegalMoving (tick_both by s x).moving
  unfolding tick_both
  both_legal by x l =
      let lines : LegalLines (tick_both by s x).moving.lines =
      iter_keeps (end_of s.t1) LegalLines (end_legal s.t1 ls.setup1) (ticked by s.t1 x.moving.t1).ends _
      (iter_keeps (end0_of s.port s.t0) LegalLines (end0_legal s.t0 ls.setup0 s.port) (ticked by s.t0 x.moving.t0).ends x.moving.lines (l.requests_fit_lem, l.port_legal)) in
      record {
        divider_high = l.divider_high;
        counting0 = ticked_legal s.t0 ls.setup0 by x.moving.t0 l.counting0;
        counting1 = ticked_legal s.t1 ls.setup1 by x.moving.t1 l.counting1;
        requests_fit_lem = lines.0;
        port_legal = lines.1;
      }

  cycle_legal : (x : Spanned) → LegalMoving x.moving → LegalMoving (cycle s x).moving
  unfolding cycle
  cycle_legal x l =
      let d = (x.moving.divider + 1) % 4 in
      let counted : LegalMoving (at_divider x d).moving =
      record { divider_high = omega arith; counting0 = l.counting0; counting1 = l.counting1; requests_fit_lem = l.requests_fit_lem; port_legal = l.port_legal } in
      by_test (λ (y : Spanned). LegalMoving y.moving) (eqb d 0) (λ e. both_legal Divider (at_divider x d) counted) (λ e. counted)

  pub cycles_legal : (n : ℕ) (m : Moving) → LegalMoving m → LegalMoving (cycles s n m).moving
  unfolding cycles
  cycles_legal n m l = iter_keeps (cycle s) (λ (x : Spanned). LegalMoving x.moving) cycle_legal n (begun m) l

  pub edge_legal : (m : Moving) → LegalMoving m → LegalMoving (edge_of s m).moving
  unfolding edge_of
  edge_legal m l = both_legal Edges (begun m) l

timer_written_legal : (s : Setup) (load enable : Bool) (c : Counting) → LegalSetup s → LegalCounting c → LegalCounting (timer_written s load enable c)
unfolding timer_written
timer_written_legal s true enable c ls lc = omega (arith, ls.p_low, ls.p_high, ls.n_low, ls.n_high)
timer_written_legal s false enable c ls lc = omega (arith, lc.prescaler_low, lc.prescaler_high, lc.counter_low, lc.counter_high)

pub written_legal : (c : Control) (m : Moving) → ControlBytes c → LegalMoving m → LegalMoving (written c m)
unfolding written
written_legal c m b l =
    let ls = setting_legal c b in
    record {
      divider_high = l.divider_high;
      counting0 = timer_written_legal (setting_of c).t0 _ _ m.t0 ls.setup0 l.counting0;
      counting1 = timer_written_legal (setting_of c).t1 _ _ m.t1 ls.setup1 l.counting1;
      requests_fit_lem = l.requests_fit_lem;
      port_legal = l.port_legal;
    }

-- TMR's bits 0 and 2 stay clear
pub kept_legal : (v : ℕ) → v < 256 → (bit_of 0 (kept v) ≡ 0) × (bit_of 2 (kept v) ≡ 0)
unfolding kept
kept_legal v h = (agree (λ x. bit_of 0 (bit_and x 0xFA)) (λ x. 0) 256 refl v h, agree (λ x. bit_of 2 (bit_and x 0xFA)) (λ x. 0) 256 refl v h)
