-- What an operation answers for bytes is a byte, and the flags that it sets are bits of one; a word's is a word.
use Rattle.std.proofs.Common.{Option, Some, None, ℕ, ◌+◌, ◌-◌, ◌*◌, ◌/◌, ◌%◌, ◌<◌, Bool, true, not, ◌&&◌, T, eqb, ltb, refl, arith, lit<, ltb→lt}
use lib.Bits.{bit_and, and_lt, or_lt, xor_lt}
use Rattle.word.specs.Words.{plus}
use Rattle.word.proofs.Computed.{by_test, and_left, and_right, agree3}
use Rattle.alu.proofs.Carries.{one_if_bit}
use Rattle.alu.specs.declared.Flags.{Flags}
use Rattle.alu.specs.declared.Outcome.{Outcome}
use Rattle.alu.specs.FlagByte.{packed, laid, flag_c, flag_d, flag_h, is_zero, sign8, sign16, rcf_of, scf_of, ccf_of}
use Rattle.alu.specs.Arithmetic.{addition_of, add_of, adc_of, difference_of, subtraction_of, sub_of, sbc_of, cp_of, counted, inc_of, dec_of, incw_of, decw_of, sum_overflow, difference_overflow}
use Rattle.alu.specs.Logical.{logic_flags, and_of, or_of, xor_of, com_of, tm_of, tcm_of}
use Rattle.alu.specs.Rotate.{rotate_flags, rl_of, rlc_of, rr_of, rrc_of, sra_of, swap_of}
use Rattle.alu.specs.Decimal.{after_addition, after_subtraction, by_rows, adjusted_by, da_of}

abbrev pub ByteFlags : Flags → Type 0
ByteFlags e = e.ones < 256

abbrev pub ByteOutcome : Outcome ℕ → Type 0
ByteOutcome o = (o.value < 256) × ByteFlags o.flags

abbrev pub WordFits : Outcome ℕ → Type 0
WordFits o = (o.value < 65536) × ByteFlags o.flags

-- six bits in their places
packed_byte : {c z s v d h : ℕ} → c < 2 → z < 2 → s < 2 → v < 2 → d < 2 → h < 2 → packed c z s v d h < 256
unfolding packed
packed_byte a b c d e f = omega arith

zero_bit : (r : ℕ) → is_zero r < 2
zero_bit r = one_if_bit (eqb r 0)

sign_bit : {r : ℕ} → r < 256 → sign8 r < 2
sign_bit h = omega arith

sum_bit : (dst src r : ℕ) → sum_overflow dst src r < 2
unfolding sum_overflow
sum_bit dst src r = one_if_bit (eqb dst src && not (eqb r dst))

difference_bit : (dst src r : ℕ) → difference_overflow dst src r < 2
unfolding difference_overflow
difference_bit dst src r = one_if_bit (not (eqb dst src) && eqb r src)

addition_byte : (a b c : ℕ) → a < 256 → b < 256 → c < 2 → ByteOutcome (addition_of a b c)
unfolding addition_of
addition_byte a b c ha hb hc = (
  omega arith,
  packed_byte (omega arith) (zero_bit ((a + b + c) % 256)) (omega arith) (sum_bit (sign8 a) (sign8 b) (sign8 ((a + b + c) % 256))) (lit< tt) (omega arith),
)

pub add_byte : (a b : ℕ) → a < 256 → b < 256 → ByteOutcome (add_of a b)
unfolding add_of
add_byte a b ha hb = addition_byte a b 0 ha hb (lit< tt)

pub adc_byte : (a b f : ℕ) → a < 256 → b < 256 → ByteOutcome (adc_of a b f)
unfolding adc_of
adc_byte a b f ha hb = addition_byte a b (flag_c f) ha hb (omega arith)

difference_byte : (a b c : ℕ) → difference_of a b c < 256
unfolding difference_of
difference_byte a b c = omega arith

subtraction_byte : (a b c : ℕ) → ByteOutcome (subtraction_of a b c)
unfolding subtraction_of
subtraction_byte a b c = (
  difference_byte a b c,
  packed_byte (one_if_bit (ltb a (b + c))) (zero_bit (difference_of a b c)) (sign_bit (difference_byte a b c))
      (difference_bit (sign8 a) (sign8 b) (sign8 (difference_of a b c))) (lit< tt) (one_if_bit (ltb (a % 16) (b % 16 + c))),
)

pub sub_byte : (a b : ℕ) → ByteOutcome (sub_of a b)
unfolding sub_of
sub_byte a b = subtraction_byte a b 0

pub sbc_byte : (a b f : ℕ) → ByteOutcome (sbc_of a b f)
unfolding sbc_of
sbc_byte a b f = subtraction_byte a b (flag_c f)

pub cp_byte : (a b : ℕ) → ByteFlags (cp_of a b)
unfolding cp_of
cp_byte a b =
    packed_byte (one_if_bit (ltb a b)) (zero_bit (difference_of a b 0)) (sign_bit (difference_byte a b 0))
    (difference_bit (sign8 a) (sign8 b) (sign8 (difference_of a b 0))) (lit< tt) (lit< tt)

counted_byte : {z s v : ℕ} → z < 2 → s < 2 → v < 2 → ByteFlags (counted z s v)
counted_byte hz hs hv = packed_byte (lit< tt) hz hs hv (lit< tt) (lit< tt)

pub inc_byte : (a : ℕ) → ByteOutcome (inc_of a)
unfolding inc_of
inc_byte a = (omega arith, counted_byte (zero_bit ((a + 1) % 256)) (omega arith) (sum_bit (sign8 a) 0 (sign8 ((a + 1) % 256))))

pub dec_byte : (a : ℕ) → ByteOutcome (dec_of a)
unfolding dec_of
dec_byte a = (omega arith, counted_byte (zero_bit ((a + 255) % 256)) (omega arith) (difference_bit (sign8 a) 0 (sign8 ((a + 255) % 256))))

pub incw_word : (w : ℕ) → WordFits (incw_of w)
unfolding incw_of
incw_word w = (omega arith, counted_byte (zero_bit (plus w 1)) (omega arith) (sum_bit (sign16 w) 0 (sign16 (plus w 1))))

pub decw_word : (w : ℕ) → WordFits (decw_of w)
unfolding decw_of
decw_word w = (omega arith, counted_byte (zero_bit (plus w 65535)) (omega arith) (difference_bit (sign16 w) 0 (sign16 (plus w 65535))))

logic_byte : {r : ℕ} → r < 256 → ByteFlags (logic_flags r)
unfolding logic_flags
logic_byte {r} h = packed_byte (lit< tt) (zero_bit r) (sign_bit h) (lit< tt) (lit< tt) (lit< tt)

logic_outcome : {r : ℕ} → r < 256 → ByteOutcome (record { value = r; flags = logic_flags r })
logic_outcome h = (h, logic_byte h)

pub and_byte : (a b : ℕ) → a < 256 → b < 256 → ByteOutcome (and_of a b)
unfolding and_of
and_byte a b ha hb = logic_outcome (and_lt 8 a b ha hb)

pub or_byte : (a b : ℕ) → a < 256 → b < 256 → ByteOutcome (or_of a b)
unfolding or_of
or_byte a b ha hb = logic_outcome (or_lt 8 a b ha hb)

pub xor_byte : (a b : ℕ) → a < 256 → b < 256 → ByteOutcome (xor_of a b)
unfolding xor_of
xor_byte a b ha hb = logic_outcome (xor_lt 8 a b ha hb)

pub com_byte : (a : ℕ) → ByteOutcome (com_of a)
unfolding com_of
com_byte a = logic_outcome (omega arith)

pub tm_byte : (a b : ℕ) → a < 256 → b < 256 → ByteFlags (tm_of a b)
unfolding tm_of
tm_byte a b ha hb = logic_byte (and_lt 8 a b ha hb)

pub tcm_byte : (a b : ℕ) → b < 256 → ByteFlags (tcm_of a b)
unfolding tcm_of
tcm_byte a b hb = logic_byte (and_lt 8 (255 - a) b (omega arith) hb)

rotate_byte : (out a r : ℕ) → out < 2 → r < 256 → ByteFlags (rotate_flags out a r)
unfolding rotate_flags
rotate_byte out a r ho hr =
    packed_byte ho (zero_bit r) (sign_bit hr) (one_if_bit (not (eqb (sign8 a) (sign8 r)))) (lit< tt) (lit< tt)

pub rl_byte : (a : ℕ) → a < 256 → ByteOutcome (rl_of a)
unfolding rl_of
rl_byte a h = (omega arith, rotate_byte (a / 128) a (a % 128 * 2 + a / 128) (omega arith) (omega arith))

pub rlc_byte : (a f : ℕ) → a < 256 → ByteOutcome (rlc_of a f)
unfolding rlc_of
rlc_byte a f h = (omega arith, rotate_byte (a / 128) a (a % 128 * 2 + flag_c f) (omega arith) (omega arith))

pub rr_byte : (a : ℕ) → a < 256 → ByteOutcome (rr_of a)
unfolding rr_of
rr_byte a h = (omega arith, rotate_byte (a % 2) a (a / 2 + a % 2 * 128) (omega arith) (omega arith))

pub rrc_byte : (a f : ℕ) → a < 256 → ByteOutcome (rrc_of a f)
unfolding rrc_of
rrc_byte a f h = (omega arith, rotate_byte (a % 2) a (a / 2 + flag_c f * 128) (omega arith) (omega arith))

pub sra_byte : (a : ℕ) → a < 256 → ByteOutcome (sra_of a)
unfolding sra_of
sra_byte a h =
    (omega arith, packed_byte (omega arith) (zero_bit (a / 2 + a / 128 * 128)) (omega arith) (lit< tt) (lit< tt) (lit< tt))

pub swap_byte : (a : ℕ) → a < 256 → ByteOutcome (swap_of a)
unfolding swap_of
swap_byte a h = (omega arith, packed_byte (lit< tt) (zero_bit (a % 16 * 16 + a / 16)) (omega arith) (lit< tt) (lit< tt) (lit< tt))

-- DA, by computing it at every byte, C and H
abbrev pub ByteAdjusted : Option (Outcome ℕ) → Type 0
ByteAdjusted (Some o) = ByteOutcome o
ByteAdjusted None = Unit {0}

abbrev fits : Option (Outcome ℕ) → Bool
fits (Some o) = ltb o.value 256 && ltb o.flags.ones 256
fits None = true

fitting : (x : Option (Outcome ℕ)) → T (fits x) → ByteAdjusted x
fitting (Some o) t =
    (ltb→lt o.value 256 (and_left (ltb o.value 256) (ltb o.flags.ones 256) t), ltb→lt o.flags.ones 256 (and_right (ltb o.value 256) (ltb o.flags.ones 256) t))
fitting None t = tt

pub da_byte : (v f : ℕ) → v < 256 → ByteAdjusted (da_of v f)
unfolding da_of by_rows after_addition after_subtraction adjusted_by packed
da_byte v f h =
    by_test ByteAdjusted (eqb (flag_d f) 0)
    (λ t. fitting (by_rows after_addition v (flag_c f) (flag_h f)) (rw (agree3 (λ x c k. fits (by_rows after_addition x c k)) (λ x c k. true) 256 2 2 refl v (flag_c f) (flag_h f) h (omega arith) (omega arith)) tt))
    (λ t. fitting (by_rows after_subtraction v (flag_c f) (flag_h f)) (rw (agree3 (λ x c k. fits (by_rows after_subtraction x c k)) (λ x c k. true) 256 2 2 refl v (flag_c f) (flag_h f) h (omega arith) (omega arith)) tt))

-- the flags laid on a byte
pub laid_byte : (f : ℕ) (e : Flags) → f < 256 → ByteFlags e → laid f e < 256
unfolding laid
laid_byte f e hf he = or_lt 8 (bit_and f (255 - e.affected)) e.ones (and_lt 8 f (255 - e.affected) hf (omega arith)) he

pub rcf_byte : (f : ℕ) → f < 256 → rcf_of f < 256
unfolding rcf_of packed
rcf_byte f h = laid_byte f _ h (lit< tt)

pub scf_byte : (f : ℕ) → f < 256 → scf_of f < 256
unfolding scf_of packed
scf_byte f h = laid_byte f _ h (lit< tt)

pub ccf_byte : (f : ℕ) → f < 256 → ccf_of f < 256
unfolding ccf_of
ccf_byte f h = laid_byte f _ h (packed_byte (omega arith) (lit< tt) (lit< tt) (lit< tt) (lit< tt) (lit< tt))
