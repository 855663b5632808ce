-- Sums and differences: ADC, ADD, CP, DEC, DECW, INC, INCW, SBC, SUB. `c` is the carry that ADC and SBC take in, 0 for the others.
use Rattle.std.specs.Prelude.{ℕ, ◌+◌, ◌-◌, ◌/◌, ◌%◌, not, ◌&&◌, ◌==◌, nat_lt}
use Rattle.word.specs.Choose.{one_if}
use Rattle.word.specs.Fields.{lower}
use Rattle.word.specs.Words.{plus}
use Rattle.alu.specs.declared.Flags.{Flags}
use Rattle.alu.specs.declared.Outcome.{Outcome}
use Rattle.alu.specs.FlagByte.{flag_c, page, unaffected, to, is_zero, sign8, sign16}

-- V of a sum, by the signs of destination, source and result: "if both operands are of the same sign and the result is of the
-- opposite sign"
unfoldable pub sum_overflow : ℕ → ℕ → ℕ → ℕ
sum_overflow dst src r = one_if (dst == src && not (r == dst))

-- V of a difference: "if the operands were of opposite signs and the sign of the result is the same as the sign of the source"
unfoldable pub difference_overflow : ℕ → ℕ → ℕ → ℕ
difference_overflow dst src r = one_if (not (dst == src) && r == src)

-- "a borrow": what is taken away, carry included, is greater
abbrev pub borrow : ℕ → ℕ → ℕ
borrow a taken = one_if (nat_lt a taken)

-- dst <-- dst + src + c. H: "a carry from the low-order nibble"
unfoldable pub addition_of : ℕ → ℕ → ℕ → Outcome ℕ
addition_of a b c =
    let r : ℕ = (a + b + c) % 256 in
    record {
      value = r;
      flags =
          page (to ((a + b + c) / 256)) (to (is_zero r)) (to (sign8 r)) (to (sum_overflow (sign8 a) (sign8 b) (sign8 r))) (to 0)
          (to ((lower a + lower b + c) / 16));
    }

unfoldable pub add_of : ℕ → ℕ → Outcome ℕ
add_of a b = addition_of a b 0

-- C is that of the flags read, from before anything is written
unfoldable pub adc_of : ℕ → ℕ → ℕ → Outcome ℕ
adc_of a b read = addition_of a b (flag_c read)

-- dst - src - c
unfoldable pub difference_of : ℕ → ℕ → ℕ → ℕ
difference_of a b c = (a + 256 - b - c) % 256

-- dst <-- dst - src - c. C and H: "set otherwise, indicating a 'borrow'"
unfoldable pub subtraction_of : ℕ → ℕ → ℕ → Outcome ℕ
subtraction_of a b c =
    let r : ℕ = difference_of a b c in
    record {
      value = r;
      flags =
          page (to (borrow a (b + c))) (to (is_zero r)) (to (sign8 r)) (to (difference_overflow (sign8 a) (sign8 b) (sign8 r))) (to 1)
          (to (borrow (lower a) (lower b + c)));
    }

unfoldable pub sub_of : ℕ → ℕ → Outcome ℕ
sub_of a b = subtraction_of a b 0

unfoldable pub sbc_of : ℕ → ℕ → ℕ → Outcome ℕ
sbc_of a b read = subtraction_of a b (flag_c read)

-- CP: dst - src, which is stored nowhere; H and D unaffected
unfoldable pub cp_of : ℕ → ℕ → Flags
cp_of a b =
    let r : ℕ = difference_of a b 0 in
    page (to (borrow a b)) (to (is_zero r)) (to (sign8 r)) (to (difference_overflow (sign8 a) (sign8 b) (sign8 r))) unaffected unaffected

-- one more, one less: C, H and D unaffected. "Arithmetic overflow" is that of the sum or difference with 1, a positive number.
abbrev pub counted : ℕ → ℕ → ℕ → Flags
counted z s v = page unaffected (to z) (to s) (to v) unaffected unaffected

unfoldable pub inc_of : ℕ → Outcome ℕ
inc_of a =
    let r : ℕ = (a + 1) % 256 in
    record { value = r; flags = counted (is_zero r) (sign8 r) (sum_overflow (sign8 a) 0 (sign8 r)) }

unfoldable pub dec_of : ℕ → Outcome ℕ
dec_of a =
    let r : ℕ = (a + 255) % 256 in
    record { value = r; flags = counted (is_zero r) (sign8 r) (difference_overflow (sign8 a) 0 (sign8 r)) }

unfoldable pub incw_of : ℕ → Outcome ℕ
incw_of w =
    let r : ℕ = plus w 1 in
    record { value = r; flags = counted (is_zero r) (sign16 r) (sum_overflow (sign16 w) 0 (sign16 r)) }

unfoldable pub decw_of : ℕ → Outcome ℕ
decw_of w =
    let r : ℕ = plus w 65535 in
    record { value = r; flags = counted (is_zero r) (sign16 r) (difference_overflow (sign16 w) 0 (sign16 r)) }
