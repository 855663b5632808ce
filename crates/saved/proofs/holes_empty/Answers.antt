use Rattle.std.proofs.Common.{◌∙◌, arith}
use Rattle.saved.specs.Saved.{holes_empty}
use Rattle.saved.proofs.Lists.{zeros_all}
use Rattle.saved.proofs.holes_empty.Goals as goal

pub returns : goal.returns
unfolding holes_empty
returns c = c.all_zero.ensures ∙ zeros_all c.args.saved.now 113 0x80 (omega arith)
