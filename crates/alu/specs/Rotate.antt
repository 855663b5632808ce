-- RL, RLC, RR, RRC, SRA, SWAP. Bit 7 of a is a / 128, bit 0 is a % 2.
use Rattle.std.specs.Prelude.{ℕ, ◌+◌, ◌*◌, ◌/◌, ◌%◌, not, ◌==◌}
use Rattle.word.specs.Choose.{one_if}
use Rattle.word.specs.Fields.{upper, lower}
use Rattle.alu.specs.declared.Flags.{Flags}
use Rattle.alu.specs.declared.Outcome.{Outcome}
use Rattle.alu.specs.FlagByte.{flag_c, page, unaffected, undefined, to, is_zero, sign8}

-- C: the bit rotated out. V: where the sign "of the destination [..] changed during rotation" (RLC's page; the others are cut off). H and D
-- unaffected.
unfoldable pub rotate_flags : ℕ → ℕ → ℕ → Flags
rotate_flags out a r = page (to out) (to (is_zero r)) (to (sign8 r)) (to (one_if (not (sign8 a == sign8 r)))) unaffected unaffected

abbrev pub rotated : ℕ → ℕ → ℕ → Outcome ℕ
rotated out a r = record { value = r; flags = rotate_flags out a r }

-- left one bit: bit 7 to bit 0 and to C
unfoldable pub rl_of : ℕ → Outcome ℕ
rl_of a = rotated (a / 128) a (a % 128 * 2 + a / 128)

-- left one bit through C: the C of the flags read to bit 0, bit 7 to C
unfoldable pub rlc_of : ℕ → ℕ → Outcome ℕ
rlc_of a read = rotated (a / 128) a (a % 128 * 2 + flag_c read)

-- right one bit: bit 0 to bit 7 and to C
unfoldable pub rr_of : ℕ → Outcome ℕ
rr_of a = rotated (a % 2) a (a / 2 + a % 2 * 128)

-- right one bit through C: the C of the flags read to bit 7, bit 0 to C
unfoldable pub rrc_of : ℕ → ℕ → Outcome ℕ
rrc_of a read = rotated (a % 2) a (a / 2 + flag_c read * 128)

-- right one bit: bit 7 stays and goes to bit 6, bit 0 to C. V: "always reset to 0"
unfoldable pub sra_of : ℕ → Outcome ℕ
sra_of a =
    let r : ℕ = a / 2 + a / 128 * 128 in
    record { value = r; flags = page (to (a % 2)) (to (is_zero r)) (to (sign8 r)) (to 0) unaffected unaffected }

-- the lower four bits and the upper four swapped. C and V: "undefined"
unfoldable pub swap_of : ℕ → Outcome ℕ
swap_of a =
    let r : ℕ = lower a * 16 + upper a in
    record { value = r; flags = page undefined (to (is_zero r)) (to (sign8 r)) undefined unaffected unaffected }
