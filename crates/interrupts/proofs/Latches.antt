-- What edges latch fits the request register, and what they start keeps the serial port legal.
use mathlib.Core.Bool.{Bool, not, ◌&&◌}
use Prim.Native.Nat.{ℕ}
use native.Mathlib.Omega.{arith}
use lib.Dec.{T}
use Rattle.word.proofs.Computed.{by_test}
use Rattle.serial.specs.Port.{LegalPort}
use Rattle.serial.specs.declared.Port.{Port}
use Rattle.serial.proofs.Theorems.{started_legal}
use Rattle.timers.specs.Requests.{requests_fit}
use Rattle.timers.specs.Clock.{LegalMoving}
use Rattle.timers.specs.declared.RequestRegister.{RequestRegister}
use Rattle.timers.specs.declared.Moving.{Moving}
use Rattle.timers.proofs.Latched.{if_fits}
use Rattle.interrupts.specs.Edges.{fell, latched_by, started_by, with_edges}

module _ (on : Bool) (last given : ℕ) where
  latches_fit : (r : RequestRegister) → T (requests_fit r) → T (requests_fit (latched_by on last given r))
  unfolding latched_by
  latches_fit r t =
      if_fits (fell 0 last given && not on) 3 _ (omega arith)
      (if_fits (fell 1 last given) 2 _ (omega arith)
      (if_fits (fell 3 last given) 1 _ (omega arith)
      (if_fits (fell 2 last given) 0 r (omega arith) t)))

  starts_legal : (p : Port) → LegalPort p → LegalPort (started_by on last given p)
  unfolding started_by
  starts_legal p l =
      by_test LegalPort (fell 0 last given && on)
      (λ t. record { legal_receiver = started_legal p.receiver l.legal_receiver; legal_transmitter = l.legal_transmitter })
      (λ t. l)

  pub edges_legal_moving : {x : Moving} → LegalMoving x → LegalMoving (with_edges on last given x)
  edges_legal_moving l =
      record {
        divider_high = l.divider_high;
        counting0 = l.counting0;
        counting1 = l.counting1;
        requests_fit_lem = latches_fit _ l.requests_fit_lem;
        port_legal = starts_legal _ l.port_legal;
      }
