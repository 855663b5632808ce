use Rattle.std.proofs.Common.{◌≡◌, ◌+◌, ◌/◌, ◌%◌, arith}
use Rattle.word.specs.Choose.{one_if}
use Rattle.alu.proofs.Carries.{half_of_sum, sum_parts}
use Rattle.alu.specs.Arithmetic.{addition_of}
use Rattle.alu.specs.FlagByte.{packed}
use Rattle.alu.proofs.arithmetic.addition.Goals as goal

pub returns : goal.returns
unfolding addition_of packed
returns c =
    let parts = sum_parts c.args.a c.args.b c.carrying_add-value.result.0 c.args.c c.carrying_add-value.result.1 (omega arith) c.carrying_add-value.ensures in
    let half : one_if c.half_carry-h.result ≡ (c.args.a % 16 + c.args.b % 16 + one_if c.args.c) / 16 =
    rw (c.half_carry-h.ensures, parts.0) (half_of_sum c.args.a c.args.b c.args.c) in
    rw (c.of_result-flags.ensures, c.sum_overflow-v.ensures, c.sign.ensures, c.sign-2.ensures, c.sign-3.ensures, half, parts.1, parts.0)
