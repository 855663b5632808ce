use Rattle.z8.specs.Calls.{encode_call_of}
use Rattle.z8.proofs.z8_encode.Goals as goal
use Rattle.z8.proofs.z8_encode.Goals.{in-Ok, in_default}

pub returns : goal.returns
unfolding encode_call_of
returns c =
    elim c.match-encoded.branch [
      | in-Ok w ↦ rw (c.number_of.ensures, w.encoded-is, w.byte0-is, w.byte1-is, w.byte2-is, w.size-is, ← c.encode-encoded.ensures, w.in-Ok.is)
      | in_default w ↦ rw (c.number_of.ensures, w.encoded-is, w.byte0-is, w.byte1-is, w.byte2-is, w.size-is, ← c.encode-encoded.ensures, w.in_default.is)
    ]
