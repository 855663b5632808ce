-- The numbers that a caller sees and every definition shares (01 "Numbers the encoder sees").
use Rattle.std.specs.Prelude.{ℕ, ◌+◌, ◌*◌, Result, Ok, Err}
use Rattle.numbers.specs.declared.Refusal.{Refusal}
use Rattle.numbers.specs.declared.Refusal.TheVariants as refusal

-- ---- 01's table: "given exactly when"

-- "program image over 65,536 bytes"
abbrev pub refused_image : ℕ
refused_image = 1

-- "data memory over 65,536 bytes"
abbrev pub refused_data : ℕ
refused_data = 2

-- "type not 1 or 11, or entry cost not 6 to 63, at making"
abbrev pub refused_making : ℕ
refused_making = 3

-- "run budget over 1,000,000 cycles"
abbrev pub refused_budget : ℕ
refused_budget = 4

-- "opcode undefined"
abbrev pub refused_opcode : ℕ
refused_opcode = 5

-- "saved machine not legal"
abbrev pub refused_machine : ℕ
refused_machine = 6

-- "saved machine not 268 bytes", 276 since 02, C-11
abbrev pub refused_length : ℕ
refused_length = 7

-- "instruction to encode is none of the 231"
abbrev pub refused_instruction : ℕ
refused_instruction = 8

-- the refusals by their names, each with its number
abbrev pub number_of : Refusal → ℕ
number_of refusal.Image = refused_image
number_of refusal.Data = refused_data
number_of refusal.Making = refused_making
number_of refusal.Budget = refused_budget
number_of refusal.Opcode = refused_opcode
number_of refusal.Machine = refused_machine
number_of refusal.Length = refused_length
number_of refusal.Instruction = refused_instruction

-- the number that is answered: a refusal's, and 0 where nothing is refused
abbrev pub answered : {A : Type 0} → Result A Refusal → ℕ
answered (Ok x) = 0
answered (Err e) = number_of e

-- ---- lengths and limits

-- "The register file is kept as 256 places"
abbrev pub file_length : ℕ
file_length = 256

-- "a saved machine of 268 bytes", which "grows by the port's state" by eight (02, C-11)
abbrev pub saved_length : ℕ
saved_length = 276

-- the most bytes of a program image and of a data memory, the most cycles of a run's budget: over these 1, 2 and 4
abbrev pub image_most : ℕ
image_most = 65536

abbrev pub data_most : ℕ
data_most = 65536

abbrev pub budget_most : ℕ
budget_most = 1000000

-- ---- this library's version, as include/z8.h and CHANGELOG.md have it

abbrev pub version_major : ℕ
version_major = 3

abbrev pub version_minor : ℕ
version_minor = 0

abbrev pub version_patch : ℕ
version_patch = 0

-- "65,536 x MAJOR + 256 x MINOR + PATCH" (include/z8.h)
abbrev pub version : ℕ
version = 65536 * version_major + 256 * version_minor + version_patch
