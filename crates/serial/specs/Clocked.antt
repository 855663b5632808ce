-- A half of the port after some ends of T0, and whether its request came in them.
use Rattle.std.specs.Prelude.{false}
use Rattle.serial.specs.declared.Clocked.{Clocked}

-- with no request
abbrev pub unasked : {H : Type 0} → H → Clocked H
unasked half = record { half = half; asked = false }
