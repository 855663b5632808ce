-- Falling edges of the Port 3 pins (01 "One step"; 004, 10.2.1, 11.5 and 12.3.1; 02, C-11).
use Rattle.std.specs.Prelude.{Bool, not, ◌&&◌, ℕ}
use Rattle.word.specs.Choose.{pick}
use Rattle.word.specs.Fields.{is_set}
use Rattle.serial.specs.Receiver.{started}
use Rattle.serial.specs.declared.Port.{Port}
use Rattle.timers.specs.Requests.{latched_if}
use Rattle.timers.specs.Control.{setting_of}
use Rattle.timers.specs.Clock.{begun, edge_of}
use Rattle.timers.specs.declared.RequestRegister.{RequestRegister}
use Rattle.timers.specs.declared.Moving.{Moving}
use Rattle.timers.specs.declared.Spanned.{Spanned}
use Rattle.machine.specs.State.{with_last3}
use Rattle.machine.specs.Clock.{control_of, moving_of, moved_to}
use Rattle.machine.specs.Serial.{port_mode}
use Rattle.machine.specs.declared.Machine.{Machine}

-- pin n of Port 3 was high in the last pins, and is low in those given
unfoldable pub fell : ℕ → ℕ → ℕ → Bool
fell n last given = is_set n last && not (is_set n given)

-- "falling edges on P32, P33, P31, P30 latch requests 0, 1, 2, 3": the request register after them. Request 3 comes "from the port while it
-- is on and not from P30" (02, C-11).
unfoldable pub latched_by : Bool → ℕ → ℕ → RequestRegister → RequestRegister
latched_by on last given r =
    let r₀ = latched_if (fell 2 last given) 0 r in
    let r₁ = latched_if (fell 3 last given) 1 r₀ in
    let r₂ = latched_if (fell 1 last given) 2 r₁ in
    latched_if (fell 0 last given && not on) 3 r₂

-- While it is on, the edge of P30 is what the receiver is "looking for": "a start bit (a High-to-Low input transition)" (004, 12.3.1).
unfoldable pub started_by : Bool → ℕ → ℕ → Port → Port
started_by on last given p =
    pick (fell 0 last given && on) (record { receiver = started p.receiver; transmitter = p.transmitter }) p

-- with what the edges latch and start
abbrev pub with_edges : Bool → ℕ → ℕ → Moving → Moving
with_edges on last given x =
    record {
      divider = x.divider;
      t0 = x.t0;
      t1 = x.t1;
      lines =
          record {
            requests = latched_by on last given x.lines.requests;
            tout = x.lines.tout;
            port = started_by on last given x.lines.port;
          };
    }

-- what the edges move: they latch and start, by P3M as it stands, "and a P31 edge may tick T1", as T1's setting has it (`edges_move_t1`, `moves`
-- of `timers`)
unfoldable pub moved_by_edges : Machine → ℕ → Spanned
moved_by_edges m given =
    let latched = with_edges (port_mode m).on m.last3 given (moving_of m) in
    pick (fell 1 m.last3 given) (edge_of (setting_of (control_of m)) latched) (begun latched)

-- a machine whose pins were compared, and T1's ends by the edges alone. (An edge never ticks T0: `edge_leaves_t0` of `timers`.)
pub record Comparison : Type 0 where
  pub machine : Machine
  pub ends1 : ℕ

-- "compare pins with the last; [the above]; the Port 3 byte given becomes the last"
unfoldable pub compared_of : Machine → ℕ → Comparison
compared_of m given =
    let x = moved_by_edges m given in
    record { machine = with_last3 (moved_to m x.moving) given; ends1 = x.ends1 }
