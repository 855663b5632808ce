-- For the contracts of the code alone, which returns in parts what the definitions say whole: nothing here has to be believed.
use Rattle.std.specs.Prelude.{List, Bool, ◌&&◌, ℕ, length, ltb, leb}
use Rattle.word.specs.Choose.{pick}
use Rattle.machine.specs.Memory.{stored_in}
use Rattle.machine.specs.Stack.{Stacked}
use Rattle.machine.specs.declared.Machine.{Machine}

-- the general-purpose registers, R4 to R127, which are what they hold (004, 3.2)
abbrev pub is_general : ℕ → Bool
is_general a = leb 0x04 a && ltb a 0x80

-- how much of an image addresses reach
abbrev pub reach_of : List ℕ → ℕ
reach_of image = pick (ltb (length image) 65536) (length image) 65536

-- a machine and data memory, both lent
pub record Left : Type 0 where
  pub machine : Machine
  pub memory : List ℕ

abbrev pub left : Machine → List ℕ → Left
left m mem = record { machine = m; memory = mem }

-- what is to be stored in data memory, stored
abbrev pub stacked : ℕ → List ℕ → Stacked → Left
stacked kind mem s = record { machine = s.machine; memory = stored_in kind mem s.stores }
