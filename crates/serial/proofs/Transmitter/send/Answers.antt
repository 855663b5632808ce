use mathlib.Core.Path.{sym}
use native.Mathlib.Omega.{arith}
use Rattle.serial.proofs.Ranges.{sending_range}
use Rattle.serial.proofs.Transmission.{sends_on}
use Rattle.serial.proofs.Transmitter.send.Goals as goal

pub returns-then-d-lt176 : goal.returns-then-d-lt176
returns-then-d-lt176 c =
    let a = c.args in
    let counts = sending_range a.self c.requires in
    rw c.unasked-then-d-lt176.ensures
    (sym (sends_on a.self c.requires (omega arith) a.n _ _ (omega arith) (omega arith) (omega arith) (omega arith)))
