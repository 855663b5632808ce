use Rattle.std.proofs.Common.{slice_index_or, refl, arith}
use mathlib.Core.Bool.{xor}
use Rattle.word.specs.Fields.{upper}
use Rattle.word.proofs.Computed.{agree}
use Rattle.alu.specs.declared.conditions.TheConstants.{HOLDING}
use Rattle.alu.specs.Conditions.{holds_of}
use Rattle.alu.specs.ForCode.{holding_of}
use Rattle.alu.proofs.conditions.holding.Goals as goal

pub returns : goal.returns
unfolding holding_of holds_of xor
returns c =
    rw c.from.ensures
    (agree (λ k. slice_index_or HOLDING k 0) holding_of 16 refl (upper c.args.f) (omega arith))
