-- For the contracts of the code alone: n ends of one half, which the code moves apart. Nothing here has to be believed.
use Rattle.std.specs.Prelude.{Bool, ◌||◌, ℕ}
use Rattle.word.specs.Iter.{iter}
use Rattle.serial.specs.Clocked.{unasked}
use Rattle.serial.specs.Transmitter.{sent_end}
use Rattle.serial.specs.Receiver.{heard_end}
use Rattle.serial.specs.declared.Transmitter.{Transmitter}
use Rattle.serial.specs.declared.Receiver.{Receiver}
use Rattle.serial.specs.declared.Clocked.{Clocked}

unfoldable pub more_sent : Clocked Transmitter → Clocked Transmitter
more_sent x =
    let y = sent_end x.half in
    record { half = y.half; asked = x.asked || y.asked }

unfoldable pub sent_ends : ℕ → Transmitter → Clocked Transmitter
sent_ends n t = iter n more_sent (unasked t)

unfoldable pub more_heard : Bool → Bool → Clocked Receiver → Clocked Receiver
more_heard parity high x =
    let y = heard_end parity high x.half in
    record { half = y.half; asked = x.asked || y.asked }

unfoldable pub heard_ends : Bool → Bool → ℕ → Receiver → Clocked Receiver
heard_ends parity high n r = iter n (more_heard parity high) (unasked r)
