-- The divider and both timers, one cycle at a time (01 "The timers", "One step"), and the serial port, which T0's ends clock (004, 12.2).
use Rattle.std.specs.Prelude.{◌≡◌, Bool, true, not, ◌&&◌, ◌||◌, ℕ, ◌+◌, ◌-◌, ◌*◌, ◌%◌, ◌≤◌, ◌<◌, T, eqb}
use Rattle.word.specs.Choose.{pick}
use Rattle.word.specs.Iter.{iter}
use Rattle.serial.specs.Port.{port_end, LegalPort}
use Rattle.serial.specs.declared.Mode.{Mode}
use Rattle.timers.specs.Requests.{latch, latched_if, requests_fit}
use Rattle.timers.specs.Control.{load0, enable0, load1, enable1, setting_of}
use Rattle.timers.specs.Timer.{ticked, timer_written, LegalSetup, LegalCounting}
use Rattle.timers.specs.declared.Control.{Control}
use Rattle.timers.specs.declared.Source.{Source}
use Rattle.timers.specs.declared.Source.TheVariants.{Divider, Edges}
use Rattle.timers.specs.declared.Setup.{Setup}
use Rattle.timers.specs.declared.Setting.{Setting}
use Rattle.timers.specs.declared.Counting.{Counting}
use Rattle.timers.specs.declared.RequestRegister.{RequestRegister}
use Rattle.timers.specs.declared.Lines.{Lines}
use Rattle.timers.specs.declared.Moving.{Moving}
use Rattle.timers.specs.declared.Spanned.{Spanned}

-- T_OUT the other way round, where the timer drives it
abbrev pub flips : Bool → Bool → Bool
flips drives tout = pick drives (not tout) tout

-- what an end of a timer does: it latches the timer's request, and flips T_OUT where the timer is chosen
unfoldable pub end_of : Setup → Lines → Lines
end_of s l = record { requests = latch s.request l.requests; tout = flips s.drives l.tout; port = l.port }

-- "Requests 3 and 4 come from the port while it is on" (02, C-11): the request register with those that the port asks for
unfoldable pub asked_for : Bool → Bool → RequestRegister → RequestRegister
asked_for asked3 asked4 r = latched_if asked3 3 (latched_if asked4 4 r)

-- an end of T0 while the serial port is on: "T_0's end-of-count signal no longer generates interrupt request IRQ_4; instead, the signal is
-- used as the input to the divide-by-16 counters (one each for the receiver and the transmitter) which clock the data stream" (004, 12.2).
-- It flips T_OUT as ever.
unfoldable pub bit_clock : Mode → Setup → Lines → Lines
bit_clock m s l =
    let x = port_end m l.port in
    record { requests = asked_for x.asked3 x.asked4 l.requests; tout = flips s.drives l.tout; port = x.port }

-- an end of T0
unfoldable pub end0_of : Mode → Setup → Lines → Lines
end0_of m s l = pick m.on (bit_clock m s l) (end_of s l)

-- one tick from this source for both timers; each that ends, once, does what its end does
unfoldable pub tick_both : Source → Setting → Spanned → Spanned
tick_both by s x =
    let a0 = ticked by s.t0 x.moving.t0 in
    let a1 = ticked by s.t1 x.moving.t1 in
    record {
      moving =
          record {
            divider = x.moving.divider;
            t0 = a0.counting;
            t1 = a1.counting;
            lines = iter a1.ends (end_of s.t1) (iter a0.ends (end0_of s.port s.t0) x.moving.lines);
          };
      ends0 = x.ends0 + a0.ends;
      ends1 = x.ends1 + a1.ends;
    }

abbrev pub at_divider : Spanned → ℕ → Spanned
at_divider x d =
    record { moving = record { divider = d; t0 = x.moving.t0; t1 = x.moving.t1; lines = x.moving.lines }; ends0 = x.ends0; ends1 = x.ends1 }

-- one cycle: "The divider counts cycles modulo 4; each return to 0 is one tick."
unfoldable pub cycle : Setting → Spanned → Spanned
cycle s x =
    let d = (x.moving.divider + 1) % 4 in
    pick (eqb d 0) (tick_both Divider s (at_divider x d)) (at_divider x d)

-- no ends yet
abbrev pub begun : Moving → Spanned
begun m = record { moving = m; ends0 = 0; ends1 = 0 }

-- n cycles, one by one, with the registers as they stand and each timer's ends counted. (A machine's own, which read its registers at each
-- cycle, are `span_of`; that the two are the same is proved: `span_is`.)
unfoldable pub cycles : Setting → ℕ → Moving → Spanned
cycles s n m = iter n (cycle s) (begun m)

-- a falling edge of P31
unfoldable pub edge_of : Setting → Moving → Spanned
edge_of s m = tick_both Edges s (begun m)

-- T_OUT after a write to TMR. One that loads the timer "sets T_OUT to 1 if the byte written chooses that timer".
unfoldable pub tout_written : Setup → Bool → Bool → Bool
tout_written s load tout = (load && s.drives) || tout

-- a write to TMR, c.tmr being the byte written; what TMR then holds is `kept` of it. "The divider isn't touched."
unfoldable pub written : Control → Moving → Moving
written c m =
    let s = setting_of c in
    let v = c.tmr in
    record {
      divider = m.divider;
      t0 = timer_written s.t0 (load0 v) (enable0 v) m.t0;
      t1 = timer_written s.t1 (load1 v) (enable1 v) m.t1;
      lines =
          record {
            requests = m.lines.requests;
            tout = tout_written s.t1 (load1 v) (tout_written s.t0 (load0 v) m.lines.tout);
            port = m.lines.port;
          };
    }

-- for the laws: what the registers can say of both timers
pub record LegalSetting (s : Setting) : Type 0 where
  pub setup0 : LegalSetup s.t0
  pub setup1 : LegalSetup s.t1

-- 01's legal machine, as far as cycles move it: "divider 0 to 3", the counts in range, IRQ as it may be, and the serial port's bytes. (T_OUT is
-- 0 or 1 by its type.)
pub record LegalMoving (m : Moving) : Type 0 where
  pub divider_high : m.divider < 4
  pub counting0 : LegalCounting m.t0
  pub counting1 : LegalCounting m.t1
  pub requests_fit_lem : T (requests_fit m.lines.requests)
  pub port_legal : LegalPort m.lines.port

-- The closed formula, of either timer.
pub data Which : Type 0 where
  T0 : Which
  T1 : Which

abbrev pub setup_for : Which → Setting → Setup
setup_for T0 s = s.t0
setup_for T1 s = s.t1

abbrev pub counting_for : Which → Moving → Counting
counting_for T0 m = m.t0
counting_for T1 m = m.t1

abbrev pub ends_for : Which → Spanned → ℕ
ends_for T0 x = x.ends0
ends_for T1 x = x.ends1

-- "Cycles already gone: divider + 4 x ((P - prescaler) + P x (N - counter))." (Of a steady timer: `-` here stops at 0.)
abbrev pub gone : ℕ → Setup → Counting → ℕ
gone divider s c = divider + 4 * ((s.p - c.timer.prescaler) + s.p * (s.n - c.timer.counter))

-- taking the divider's ticks (internally, or gated and P31 held high), enabled, repeating, and its counts within its start values
pub record Steady (s : Setup) (c : Counting) : Type 0 where
  pub clocked : s.divider ≡ true
  pub enabled : c.enabled ≡ true
  pub repeating : s.repeats ≡ true
  pub prescaler_within : c.timer.prescaler ≤ s.p
  pub counter_within : c.timer.counter ≤ s.n
