-- The port: both halves, one end of T0 at a time and n of them. "T_0's end-of-count signal [..] is used as the input to the divide-by-16
-- counters (one each for the receiver and the transmitter) which clock the data stream" (004, 12.2).
use Rattle.std.specs.Prelude.{false, ◌||◌, ℕ}
use Rattle.word.specs.Iter.{iter}
use Rattle.serial.specs.Transmitter.{sent_end, LegalTransmitter}
use Rattle.serial.specs.Receiver.{heard_end, LegalReceiver}
use Rattle.serial.specs.declared.Clocked.{Clocked}
use Rattle.serial.specs.declared.Transmitter.{Transmitter}
use Rattle.serial.specs.declared.Receiver.{Receiver}
use Rattle.serial.specs.declared.Mode.{Mode}
use Rattle.serial.specs.declared.Port.{Port}
use Rattle.serial.specs.declared.Ended.{Ended}

-- the two halves, each with its request
abbrev pub both : Clocked Receiver → Clocked Transmitter → Ended
both h s = record { port = record { receiver = h.half; transmitter = s.half }; asked3 = h.asked; asked4 = s.asked }

-- One end of T0, which the port hears while it is on: whoever clocks it looks at `on`.
unfoldable pub port_end : Mode → Port → Ended
port_end m p = both (heard_end m.parity m.high p.receiver) (sent_end p.transmitter)

-- with no request, and with those that came before
abbrev pub quiet : Port → Ended
quiet p = record { port = p; asked3 = false; asked4 = false }

abbrev pub asked_since : Ended → Ended → Ended
asked_since before x = record { port = x.port; asked3 = before.asked3 || x.asked3; asked4 = before.asked4 || x.asked4 }

-- one end more
unfoldable pub more_port : Mode → Ended → Ended
more_port m x = asked_since x (port_end m x.port)

-- n ends, one by one, with P30 and P3M held
unfoldable pub port_ends : Mode → ℕ → Port → Ended
port_ends m n p = iter n (more_port m) (quiet p)

pub record LegalPort (p : Port) : Type 0 where
  pub legal_receiver : LegalReceiver p.receiver
  pub legal_transmitter : LegalTransmitter p.transmitter
