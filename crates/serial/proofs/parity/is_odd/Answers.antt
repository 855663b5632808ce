use borrow.Author.Rules.{rules}
use mathlib.Core.Path.{refl}
use Prim.Native.Nat.{◌%◌}
use lib.Count as bits_set
use lib.Dec.{eqb}
use Rattle.word.proofs.Computed.{agree}
use Rattle.serial.specs.Parity.{is_odd}
use Rattle.serial.proofs.parity.is_odd.Goals as goal

pub returns : goal.returns
unfolding is_odd bits_set.ones
returns c = agree (λ v. eqb (bits_set.ones v % 2) 1) is_odd 256 refl c.args.v (search rules)
