use borrow.Author.Rules.{rules}
use mathlib.Core.Path.{sym}
use native.Mathlib.Omega.{arith}
use Rattle.serial.proofs.Theorems.{data_legal}
use Rattle.serial.proofs.Reception.{start_out}
use Rattle.serial.proofs.Receiver.hear.Goals as goal

pub hear_data-requires-2-clause-legal_receiver : goal.hear_data-requires-2-clause-legal_receiver
hear_data-requires-2-clause-legal_receiver c = data_legal _ _ _ _ (search rules) (omega arith) (omega arith) (omega arith) (omega arith)

pub returns : goal.returns
returns c =
    let a = c.args in
    rw c.hear_data-2.ensures (sym (start_out a.m.parity a.m.high a.self c.requires (omega arith) c.if-m.false a.n _ (omega arith)))
