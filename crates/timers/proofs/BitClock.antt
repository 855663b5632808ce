-- The serial port and the clock: the port hears T0's ends alone, and moves no timer. So n cycles of both are the timers' n cycles, and the port's
-- as many ends as T0 had in them.
use mathlib.Core.Path.{◌≡◌, refl, ap, ◌∙◌}
use mathlib.Core.Bool.{true, false}
use Prim.Native.Nat.{ℕ, ◌<◌}
use Rattle.word.specs.Iter.{iter}
use Rattle.serial.specs.Port.{port_ends}
use Rattle.serial.specs.declared.Ended.{Ended}
use Rattle.timers.specs.Requests.{latch}
use Rattle.timers.specs.Clock.{asked_for, end_of, end0_of, flips, cycles}
use Rattle.timers.specs.declared.Lines.{Lines}
use Rattle.timers.specs.declared.Setting.{Setting}
use Rattle.timers.specs.declared.Moving.{Moving}
use Rattle.timers.specs.declared.Spanned.{Spanned}
use Rattle.timers.proofs.Ends.{ends_apart, ends_on, ends_off}
use Rattle.timers.proofs.Cycles.{cycles_apart}

module _ (s : Setting) (n : ℕ) (m : Moving) (d : m.divider < 4) where
  abbrev after : Spanned
  after = cycles s n m

  -- what the ends of T1 do beside those of T0
  abbrev with_t1 : Lines → Lines
  with_t1 l =
      record {
        requests = iter after.ends1 (latch s.t1.request) l.requests;
        tout = iter after.ends1 (flips s.t1.drives) l.tout;
        port = l.port;
      }

  by_ends : after.moving.lines ≡ with_t1 (iter after.ends0 (end0_of s.port s.t0) m.lines)
  by_ends = rw (cycles_apart s m d n _ _ refl refl) (ends_apart s.t1 _ _)

  -- while it is on, n cycles are as many ends of the port as T0 has ends in them: its state is that after them, and its requests came
  -- beside T1's, and none from T0
  pub port_hears : s.port.on ≡ true
      → let heard : Ended = port_ends s.port after.ends0 m.lines.port in
      after.moving.lines
      ≡ with_t1
      (record {
        requests = asked_for heard.asked3 heard.asked4 m.lines.requests;
        tout = iter after.ends0 (flips s.t0.drives) m.lines.tout;
        port = heard.port;
      })
  port_hears on = by_ends ∙ ap with_t1 (ends_on s.port s.t0 after.ends0 m.lines on)

  -- while it is off, nothing of it moves, and the requests are the timers' own
  pub port_rests : s.port.on ≡ false
      → after.moving.lines
      ≡ with_t1
      (record {
        requests = iter after.ends0 (latch s.t0.request) m.lines.requests;
        tout = iter after.ends0 (flips s.t0.drives) m.lines.tout;
        port = m.lines.port;
      })
  port_rests off = by_ends ∙ ap with_t1 (ends_off s.port s.t0 after.ends0 m.lines off ∙ ends_apart s.t0 after.ends0 m.lines)

  -- and with whatever port, IRQ and T_OUT level, the divider, both counts and both numbers of ends are the same
  pub moves_no_timer : (l : Lines)
      → cycles s n (record { divider = m.divider; t0 = m.t0; t1 = m.t1; lines = l })
      ≡ record {
        moving =
            record {
              divider = after.moving.divider;
              t0 = after.moving.t0;
              t1 = after.moving.t1;
              lines = iter after.ends1 (end_of s.t1) (iter after.ends0 (end0_of s.port s.t0) l);
            };
        ends0 = after.ends0;
        ends1 = after.ends1;
      }
  moves_no_timer l =
      let other : Moving = record { divider = m.divider; t0 = m.t0; t1 = m.t1; lines = l } in
      rw (cycles_apart s m d n _ _ refl refl, cycles_apart s other d n _ _ refl refl)
