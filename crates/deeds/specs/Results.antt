-- The results of the pages that read and store alike, of values: dst is what the destination reads. `read` is the FLAGS byte from before
-- anything is written.
use Rattle.std.specs.Prelude.{ℕ}
use Rattle.alu.specs.Arithmetic.{add_of, adc_of, sub_of, sbc_of, cp_of, inc_of, dec_of, incw_of, decw_of}
use Rattle.alu.specs.Logical.{and_of, or_of, xor_of, com_of, tm_of, tcm_of}
use Rattle.alu.specs.Rotate.{rl_of, rlc_of, rr_of, rrc_of, sra_of, swap_of}
use Rattle.alu.specs.declared.Flags.{Flags}
use Rattle.alu.specs.declared.Outcome.{Outcome}
use Rattle.opcodes.specs.declared.Binary.{Binary}
use Rattle.opcodes.specs.declared.Binary.TheVariants.{Adc, Add, And, Or, Sbc, Sub, Xor}
use Rattle.opcodes.specs.declared.Test.{Test}
use Rattle.opcodes.specs.declared.Test.TheVariants.{Cp, Tcm, Tm}
use Rattle.opcodes.specs.declared.Unary.{Unary}
use Rattle.opcodes.specs.declared.Unary.TheVariants.{Com, Dec, Inc, Rl, Rlc, Rr, Rrc, Sra, Swap}
use Rattle.opcodes.specs.declared.Paired.{Paired}
use Rattle.opcodes.specs.declared.Paired.TheVariants.{Decw, Incw}

-- dst <-- the result of dst and src
unfoldable pub binary_of : Binary → ℕ → ℕ → ℕ → Outcome ℕ
binary_of Adc dst src read = adc_of dst src read
binary_of Add dst src read = add_of dst src
binary_of And dst src read = and_of dst src
binary_of Or dst src read = or_of dst src
binary_of Sbc dst src read = sbc_of dst src read
binary_of Sub dst src read = sub_of dst src
binary_of Xor dst src read = xor_of dst src

-- flags alone
unfoldable pub test_of : Test → ℕ → ℕ → Flags
test_of Cp dst src = cp_of dst src
test_of Tcm dst src = tcm_of dst src
test_of Tm dst src = tm_of dst src

-- dst <-- the result of dst
unfoldable pub unary_of : Unary → ℕ → ℕ → Outcome ℕ
unary_of Com dst read = com_of dst
unary_of Dec dst read = dec_of dst
unary_of Inc dst read = inc_of dst
unary_of Rl dst read = rl_of dst
unary_of Rlc dst read = rlc_of dst read
unary_of Rr dst read = rr_of dst
unary_of Rrc dst read = rrc_of dst read
unary_of Sra dst read = sra_of dst
unary_of Swap dst read = swap_of dst

-- a word
unfoldable pub paired_of : Paired → ℕ → Outcome ℕ
paired_of Decw dst = decw_of dst
paired_of Incw dst = incw_of dst
