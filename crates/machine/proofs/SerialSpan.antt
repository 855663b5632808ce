-- The serial port over a span of a machine (02, C-11: "Demand 3 now also covers shift registers and both requests over a span with pins held"). That
-- the move by division is the single cycles, port and requests in it, is the contract of `clock::span`. Here is what those cycles come to: the
-- port hears T0's ends alone, and IRQ has no request but the port's and T1's, or, while it is off, the two timers'; held, it has none.
use mathlib.Core.Path.{◌≡◌, ◌∙◌, ap}
use mathlib.Core.Bool.{true, false}
use Prim.Native.Nat.{ℕ}
use Rattle.word.specs.Iter.{iter}
use Rattle.serial.specs.Port.{port_ends}
use Rattle.serial.specs.declared.Ended.{Ended}
use Rattle.timers.specs.Requests.{latch}
use Rattle.timers.specs.Control.{setting_of, setup_of}
use Rattle.timers.specs.Clock.{asked_for, cycles}
use Rattle.timers.specs.declared.RequestRegister.{RequestRegister}
use Rattle.timers.specs.declared.Lines.{Lines}
use Rattle.timers.specs.declared.Moving.{Moving}
use Rattle.timers.specs.declared.Setting.{Setting}
use Rattle.timers.specs.declared.Spanned.{Spanned}
use Rattle.timers.proofs.BitClock.{port_hears, port_rests}
use Rattle.machine.specs.Names.{TMR}
use Rattle.machine.specs.State.{placed, with_released, with_port}
use Rattle.machine.specs.Clock.{control_with, control_of, moving_of, counts_at, moved_to, shown, span_of}
use Rattle.machine.specs.Serial.{port_mode}
use Rattle.machine.specs.Legal.{Legal}
use Rattle.machine.specs.declared.Machine.{Machine}
use Rattle.machine.proofs.Lens.{put_seen, span_is}

-- the request register of a machine: IRQ, and whether it is released
abbrev pub requests_of : Machine → RequestRegister
requests_of m = (moving_of m).lines.requests

module _ (m : Machine) (l : Legal m) (n : ℕ) where
  abbrev set : Setting
  set = setting_of (control_of m)

  abbrev after : Spanned
  after = cycles set n (moving_of m)

  -- what is left of a span in the port and in IRQ
  left_in : (x : Lines) → after.moving.lines ≡ x
      → ((shown m after).machine.port ≡ x.port) × ((moving_of (shown m after).machine).lines.requests ≡ x.requests)
  unfolding shown moved_to placed counts_at with_released with_port
  left_in x e = (
    ap (λ (y : Lines). y.port) e,
    ap (λ (y : Moving). y.lines.requests) (put_seen m l.file.long (l.file.bytes TMR) after.moving) ∙ ap (λ (y : Lines). y.requests) e,
  )

  -- on: n cycles are the port's `ends0` ends, and its requests come beside T1's
  pub span_hears : (port_mode m).on ≡ true
      → let heard : Ended = port_ends (port_mode m) (span_of n m).ends0 m.port in
      ((span_of n m).machine.port ≡ heard.port)
      × (requests_of (span_of n m).machine ≡ iter (span_of n m).ends1 (latch 5) (asked_for heard.asked3 heard.asked4 (requests_of m)))
  unfolding port_mode setting_of setup_of control_of control_with moving_of shown
  span_hears on =
      rw (span_is m l.file.long (l.file.bytes TMR) n) (left_in _ (port_hears set n (moving_of m) l.moving.divider_high on))

  -- off: the port rests, and the requests are both timers'
  pub span_rests : (port_mode m).on ≡ false
      → ((span_of n m).machine.port ≡ m.port)
      × (requests_of (span_of n m).machine ≡ iter (span_of n m).ends1 (latch 5) (iter (span_of n m).ends0 (latch 4) (requests_of m)))
  unfolding port_mode setting_of setup_of control_of control_with moving_of shown
  span_rests off =
      rw (span_is m l.file.long (l.file.bytes TMR) n) (left_in _ (port_rests set n (moving_of m) l.moving.divider_high off))
