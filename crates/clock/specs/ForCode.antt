-- For the contracts of the code alone, which returns in parts what the definitions say whole: nothing here has to be believed.
use Rattle.machine.specs.Clock.{Ran}
use Rattle.machine.specs.declared.Machine.{Machine}
use Rattle.clock.specs.declared.Ends.{Ends}

-- a machine after some cycles, with each timer's ends
abbrev pub ran_of : Machine → Ends → Ran
ran_of m e = record { machine = m; ends0 = e.ends0; ends1 = e.ends1 }
