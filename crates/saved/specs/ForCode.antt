-- For the contracts of the code alone, which returns in parts what the definitions say whole: nothing here has to be believed.
use Rattle.std.specs.Prelude.{List, ℕ, eqb, length, Result, Ok, Err}
use Rattle.numbers.specs.Numbers.{saved_length}
use Rattle.numbers.specs.declared.Refusal.{Refusal}
use Rattle.numbers.specs.declared.Refusal.TheVariants as refusal
use Rattle.word.specs.Choose.{pick}
use Rattle.machine.specs.declared.Machine.{Machine}
use Rattle.saved.specs.Saved.{legal_of, machine_of}

-- what bytes load to; its refusal is `refusal_of` (proved: `load_refuses`)
unfoldable pub load_of : List ℕ → Result Machine Refusal
load_of s = pick (eqb (length s) saved_length) (pick (legal_of s) (Ok (machine_of s)) (Err refusal.Machine)) (Err refusal.Length)
