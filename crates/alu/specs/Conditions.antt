-- The sixteen condition codes (5.4.2), in the order of their binary codes.
use Rattle.std.specs.Prelude.{ℕ, Bool, true, false, not, ◌&&◌, ◌||◌, List, [], ◌∷◌, ◌==◌, slice_index_or}
use Rattle.std.specs.Bool.{xor}
use Rattle.alu.specs.FlagByte.{flag_c, flag_z, flag_s, flag_v}

-- whether each code's flag settings are those of C, Z, S and V
abbrev pub conditions : Bool → Bool → Bool → Bool → List Bool
conditions c z s v =
    -- 0000 F: always false
    false
    -- 0001 LT: (S XOR V) = 1
    ∷ xor s v
    -- 0010 LE: (Z OR (S XOR V)) = 1
    ∷ (z || xor s v)
    -- 0011 ULE: (C OR Z) = 1
    ∷ (c || z)
    -- 0100 OV: V = 1
    ∷ v
    -- 0101 MI: S = 1
    ∷ s
    -- 0110 Z, EQ: Z = 1
    ∷ z
    -- 0111 C, ULT: C = 1
    ∷ c
    -- 1000 (blank): always true
    ∷ true
    -- 1001 GE: (S XOR V) = 0
    ∷ not (xor s v)
    -- 1010 GT: (Z OR (S XOR V)) = 0
    ∷ not (z || xor s v)
    -- 1011 UGT: (C = 0 AND Z = 0) = 1
    ∷ (not c && not z)
    -- 1100 NOV: V = 0
    ∷ not v
    -- 1101 PL: S = 0
    ∷ not s
    -- 1110 NZ, NE: Z = 0
    ∷ not z
    -- 1111 NC, UGE: C = 0
    ∷ not c
    ∷ []

-- condition code cc holds of the FLAGS byte f
unfoldable pub holds_of : ℕ → ℕ → Bool
holds_of cc f =
    slice_index_or (conditions (flag_c f == 1) (flag_z f == 1) (flag_s f == 1) (flag_v f == 1)) cc false
