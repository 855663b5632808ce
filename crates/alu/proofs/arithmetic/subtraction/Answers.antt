use Rattle.std.proofs.Common.{◌≡◌, ◌+◌, ◌%◌, ltb, arith}
use Rattle.alu.proofs.Carries.{half_of_difference, difference_parts}
use Rattle.word.specs.Choose.{one_if}
use Rattle.alu.specs.Arithmetic.{difference_of, subtraction_of}
use Rattle.alu.specs.FlagByte.{packed}
use Rattle.alu.proofs.arithmetic.subtraction.Goals as goal

pub returns : goal.returns
unfolding difference_of subtraction_of packed
returns c =
    let parts = difference_parts c.args.a c.args.b c.borrowing_sub-value.result.0 c.args.c c.borrowing_sub-value.result.1 (omega arith) (omega arith) (omega arith) c.borrowing_sub-value.ensures in
    let half : one_if c.half_carry-h.result ≡ one_if (ltb (c.args.a % 16) (c.args.b % 16 + one_if c.args.c)) =
    rw (c.half_carry-h.ensures, parts.0) (half_of_difference c.args.a c.args.b c.args.c (omega arith)) in
    rw (c.of_result-flags.ensures, c.difference_overflow-v.ensures, c.sign.ensures, c.sign-2.ensures, c.sign-3.ensures, half, parts.1, parts.0)
