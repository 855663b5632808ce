-- Program and data memory (01 "Memory and registers"; 004 3.4 and 3.5). "Data and program memory are separate, and port modes don't
-- hinder either (HOUSE)": nothing here looks at a register. "LDC and LDCI stores are dropped (HOUSE)": nothing stores to the image.
use Rattle.std.specs.Prelude.{List, [], ◌∷◌, ℕ, Option, Some, None, eqb, ltb, get_or, set}
use Rattle.word.specs.Choose.{pick}
use Rattle.word.specs.Words.{plus}
use Rattle.machine.specs.declared.Bytes.{Bytes}
use Rattle.machine.specs.declared.Bytes.TheVariants.{One, Two, Three}
use Rattle.machine.specs.declared.memory.Triple.{Triple}

-- "Program bytes past the image read FF (HOUSE)." (`get_or` is the element, or its last argument past the end.)
unfoldable pub program_byte : List ℕ → ℕ → ℕ
program_byte image a = get_or image a 0xFF

-- three bytes from an address on, modulo 65,536, as a fetch reads them
abbrev pub program_three : List ℕ → ℕ → Triple
program_three image a = record { first = program_byte image a; second = program_byte image (plus a 1); third = program_byte image (plus a 2) }

-- data addresses under 2,048 (type 1) or 4,096 (type 11) are none
abbrev pub data_start : ℕ → ℕ
data_start kind = pick (eqb kind 1) 2048 4096

-- "Data addresses under [the start], or past the lent memory, read FF; stores there are dropped (HOUSE)." (`set` past the end leaves the
-- list as it is.)
unfoldable pub data_byte : ℕ → List ℕ → ℕ → ℕ
data_byte kind mem a = pick (ltb a (data_start kind)) 0xFF (get_or mem a 0xFF)

unfoldable pub data_stored : ℕ → List ℕ → ℕ → ℕ → List ℕ
data_stored kind mem a v = pick (ltb a (data_start kind)) mem (set mem a v)

abbrev pub list_of : Bytes → List ℕ
list_of (One x) = x ∷ []
list_of (Two x y) = x ∷ y ∷ []
list_of (Three x y z) = x ∷ y ∷ z ∷ []

-- bytes stored upward in address order, modulo 65,536
abbrev pub stored_from : ℕ → List ℕ → ℕ → List ℕ → List ℕ
stored_from kind mem a [] = mem
stored_from kind mem a (v ∷ vs) = stored_from kind (data_stored kind mem a v) (plus a 1) vs

-- what is to be stored in data memory: nothing, or bytes upward from an address
abbrev pub Stores : Type 0
Stores = Option (ℕ × Bytes)

-- data memory after what is to be stored there
unfoldable pub stored_in : ℕ → List ℕ → Stores → List ℕ
stored_in kind mem None = mem
stored_in kind mem (Some (a, b)) = stored_from kind mem a (list_of b)
