use mathlib.Core.Path.{sym}
use native.Mathlib.Omega.{arith}
use Rattle.serial.proofs.Ranges.{data_range}
use Rattle.serial.proofs.Reception.{hears_on}
use Rattle.serial.proofs.Receiver.hear_data.Goals as goal

pub returns-then-d-lt128 : goal.returns-then-d-lt128
returns-then-d-lt128 c =
    let a = c.args in
    let l = c.requires.legal_receiver in
    let bits = c.requires.le_awaited in
    let counts = data_range a.self l bits in
    rw (c.unasked.ensures, c.shifted-shift.ensures)
    (sym (hears_on a.m.parity a.m.high a.self l bits a.n _ _ (omega arith) (omega arith) (omega arith)))
