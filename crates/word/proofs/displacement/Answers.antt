use Rattle.std.proofs.Common.{arith}
use Rattle.word.proofs.Bytes.{signed}
use Rattle.word.proofs.displacement.Goals as goal

pub returns : goal.returns
returns c = rw (c.from.ensures, c.cast_signed.ensures) (signed c.args.b (omega arith))
