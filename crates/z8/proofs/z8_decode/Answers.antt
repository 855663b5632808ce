use Rattle.z8.proofs.Ways.{decode_is}
use Rattle.z8.proofs.z8_decode.Goals as goal
use Rattle.z8.proofs.z8_decode.Goals.{in-Ok, in_default}

pub returns : goal.returns
returns c =
    elim c.match-decoded.branch [
      | in-Ok w ↦ rw (c.number_of.ensures, w.decoded-is, w.opcode-is, w.first-is, w.second-is, w.size-is, decode_is c.args.image.now c.args.at _, ← c.decoded_at-decoded.ensures, w.in-Ok.is)
      | in_default w ↦ rw (c.number_of.ensures, w.decoded-is, w.opcode-is, w.first-is, w.second-is, w.size-is, decode_is c.args.image.now c.args.at _, ← c.decoded_at-decoded.ensures, w.in_default.is)
    ]
