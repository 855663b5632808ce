-- DA, by the rows of its page.
use Rattle.std.specs.Prelude.{ℕ, ◌+◌, ◌%◌, Option, Some, None, Bool, ◌&&◌, List, [], ◌∷◌, ◌==◌, nat_le}
use Rattle.word.specs.Choose.{pick}
use Rattle.word.specs.Fields.{upper, lower}
use Rattle.alu.specs.declared.Outcome.{Outcome}
use Rattle.alu.specs.FlagByte.{flag_c, flag_d, flag_h, page, unaffected, undefined, to, is_zero, sign8}

-- a row of the page's table
pub data Row : Type 0 where
  row : ℕ → ℕ → ℕ → ℕ → ℕ → ℕ → ℕ → ℕ → Row

-- carry before, bits 4-7 from and to, H before, bits 0-3 from and to, number added to byte, carry after
unfoldable pub after_addition : List Row
after_addition =
    row 0 0x0 0x9 0 0x0 0x9 0x00 0
    ∷ row 0 0x0 0x8 0 0xA 0xF 0x06 0
    ∷ row 0 0x0 0x9 1 0x0 0x3 0x06 0
    ∷ row 0 0xA 0xF 0 0x0 0x9 0x60 1
    ∷ row 0 0x9 0xF 0 0xA 0xF 0x66 1
    ∷ row 0 0xA 0xF 1 0x0 0x3 0x66 1
    ∷ row 1 0x0 0x2 0 0x0 0x9 0x60 1
    ∷ row 1 0x0 0x2 0 0xA 0xF 0x66 1
    ∷ row 1 0x0 0x3 1 0x0 0x3 0x66 1
    ∷ []

unfoldable pub after_subtraction : List Row
after_subtraction =
    row 0 0x0 0x9 0 0x0 0x9 0x00 0
    ∷ row 0 0x0 0x8 1 0x6 0xF 0xFA 0
    ∷ row 1 0x7 0xF 0 0x0 0x9 0xA0 1
    ∷ row 1 0x6 0xF 1 0x6 0xF 0x9A 1
    ∷ []

-- the row is for this byte, C and H
abbrev pub fits : Row → ℕ → ℕ → ℕ → Bool
fits (row c₀ from to₀ h₀ low high add after) v c h =
    (c == c₀) && (nat_le from (upper v) && (nat_le (upper v) to₀ && (h == h₀ && (nat_le low (lower v) && nat_le (lower v) high))))

-- what the row makes of the byte. C: "see table above"; V: "undefined"; H and D unaffected
unfoldable pub adjusted_by : ℕ → ℕ → ℕ → Outcome ℕ
adjusted_by v add after =
    let r : ℕ = (v + add) % 256 in
    record { value = r; flags = page (to after) (to (is_zero r)) (to (sign8 r)) undefined unaffected unaffected }

abbrev pub by_row : Row → ℕ → Outcome ℕ
by_row (row c₀ from to₀ h₀ low high add after) v = adjusted_by v add after

-- the first row that is for this byte, C and H; a combination in no row changes nothing, flags included (HOUSE)
unfoldable pub by_rows : List Row → ℕ → ℕ → ℕ → Option (Outcome ℕ)
by_rows [] v c h = None
by_rows (r ∷ rs) v c h = pick (fits r v c h) (Some (by_row r v)) (by_rows rs v c h)

-- the rows by D of the flags read: "this flag specifies what type of instruction was last executed" (5.2.5)
unfoldable pub da_of : ℕ → ℕ → Option (Outcome ℕ)
da_of v read = pick (flag_d read == 0) (by_rows after_addition v (flag_c read) (flag_h read)) (by_rows after_subtraction v (flag_c read) (flag_h read))
