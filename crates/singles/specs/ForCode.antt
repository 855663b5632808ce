-- For the contract of the code alone, which knows these instructions by their opcodes: nothing here has to be believed.
use Rattle.std.specs.Prelude.{◌≡◌, Bool, not, ◌&&◌, ℕ, ◌≤◌, ◌<◌, T, eqb, leb}
use Rattle.word.specs.Fields.{upper, lower}
use Rattle.word.specs.Words.{plus}
use Rattle.machine.specs.declared.Machine.{Machine}
use Rattle.deeds.specs.declared.Code.{Code}
use Rattle.execute.specs.ForCode.{column_length}

-- the rows 8, 9, C, D, F
abbrev pub single_row : ℕ → Bool
single_row hi = leb 8 hi && (not (eqb hi 10) && (not (eqb hi 11) && not (eqb hi 14)))

-- an instruction of columns 2 to 7 in these rows; the machine n stands at the next instruction, or what would be that if D4 were as long as its column
pub record Single (n : Machine) (pc : ℕ) (i : Code) : Type 0 where
  pub low : 2 ≤ lower i.op
  pub high : lower i.op < 8
  pub next : n.pc ≡ plus pc (column_length (lower i.op))
  pub row : T (single_row (upper i.op))
