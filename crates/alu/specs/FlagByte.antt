-- The FLAGS byte (5.2), and what a page of chapter 5 says of each flag. "FLAGS from bit 7 down: C Z S V D H F2 F1." (01). A flag by itself
-- is 0 or 1.
use Rattle.std.specs.Prelude.{ℕ, ◌+◌, ◌-◌, ◌*◌, ◌/◌, ◌==◌, bit_and, bit_or}
use Rattle.word.specs.Choose.{one_if}
use Rattle.word.specs.Fields.{bit_of}
use Rattle.alu.specs.declared.Flags.{Flags}

abbrev pub flag_c : ℕ → ℕ
flag_c f = bit_of 7 f

abbrev pub flag_z : ℕ → ℕ
flag_z f = bit_of 6 f

abbrev pub flag_s : ℕ → ℕ
flag_s f = bit_of 5 f

abbrev pub flag_v : ℕ → ℕ
flag_v f = bit_of 4 f

abbrev pub flag_d : ℕ → ℕ
flag_d f = bit_of 3 f

abbrev pub flag_h : ℕ → ℕ
flag_h f = bit_of 2 f

-- six flags in their places
unfoldable pub packed : ℕ → ℕ → ℕ → ℕ → ℕ → ℕ → ℕ
packed c z s v d h = c * 128 + z * 64 + s * 32 + v * 16 + d * 8 + h * 4

-- what a page says of a flag: that it is unaffected, that it is undefined, or what it becomes
pub data Flag : Type 0 where
  unaffected : Flag
  undefined : Flag
  to : ℕ → Flag

-- 1 where the flag is affected. An undefined flag stays (HOUSE).
abbrev pub affects : Flag → ℕ
affects unaffected = 0
affects undefined = 0
affects (to b) = 1

-- what an affected flag becomes
abbrev pub becomes : Flag → ℕ
becomes unaffected = 0
becomes undefined = 0
becomes (to b) = b

-- what a page says of C Z S V D H: which bits of FLAGS are affected, and which of these are set
abbrev pub page : Flag → Flag → Flag → Flag → Flag → Flag → Flags
page c z s v d h =
    record {
      affected = packed (affects c) (affects z) (affects s) (affects v) (affects d) (affects h);
      ones = packed (becomes c) (becomes z) (becomes s) (becomes v) (becomes d) (becomes h);
    }

-- the FLAGS byte f, as it stands once the destination is stored (HOUSE), with the affected bits laid on it: the others are f's
unfoldable pub laid : ℕ → Flags → ℕ
laid f e = bit_or (bit_and f (255 - e.affected)) e.ones

-- "Set if the result is zero; cleared otherwise", of a byte or a word
abbrev pub is_zero : ℕ → ℕ
is_zero r = one_if (r == 0)

-- the most significant bit of a byte, and of a word
abbrev pub sign8 : ℕ → ℕ
sign8 a = a / 128

abbrev pub sign16 : ℕ → ℕ
sign16 w = w / 32768

-- RCF, SCF, CCF: C reset, set, complemented; no other flags affected
abbrev pub carry_to : ℕ → Flags
carry_to c = page (to c) unaffected unaffected unaffected unaffected unaffected

unfoldable pub rcf_of : ℕ → ℕ
rcf_of f = laid f (carry_to 0)

unfoldable pub scf_of : ℕ → ℕ
scf_of f = laid f (carry_to 1)

unfoldable pub ccf_of : ℕ → ℕ
ccf_of f = laid f (carry_to (1 - flag_c f))
