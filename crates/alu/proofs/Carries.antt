-- H by single bits.
use Rattle.std.proofs.Common.{◌*◌, sym, lt-ltb, le-ltb, ◌^◌, ◌≡◌, ℕ, ◌+◌, ◌-◌, ◌/◌, ◌%◌, ◌<◌, ◌≤◌, Bool, true, false, eqb, ltb, refl, ap, ◌∙◌, arith, lit<, ltb-false, ltb-true}
use Rattle.std.specs.Int.{from_bool, rotate_left, w8}
use lib.Bits.{bit_xor, xor_shr, xor_mod}
use Rattle.word.specs.Choose.{one_if}
use Rattle.word.specs.Fields.{bit_of, is_set}
use Rattle.word.proofs.Computed.{by_test, agree, agree3}
use Rattle.alu.specs.ForCode.{half_carry}

pub one_if_bit : (b : Bool) → one_if b < 2
one_if_bit true = lit< tt
one_if_bit false = lit< tt

-- three bits, the third the sum of the others and h
three : (x y h : ℕ) → x < 2 → y < 2 → h < 2 → bit_xor (bit_xor x y) ((x + y + h) % 2) ≡ h
three x y h = agree3 (λ u v w. bit_xor (bit_xor u v) ((u + v + w) % 2)) (λ u v w. w) 2 2 2 refl x y h

-- so it is enough that bit 4 of the result is such a sum
by_third : (a b r h : ℕ) → h < 2 → r / 16 % 2 ≡ (a / 16 % 2 + b / 16 % 2 + h) % 2 → half_carry a b r ≡ h
unfolding half_carry
by_third a b r h l e = rw e (three (a / 16 % 2) (b / 16 % 2) h (omega arith) (omega arith) l)

-- bit 4 of an exclusive or is that of its operands' bits
bit_of_xor : (a b r : ℕ) → bit_of 4 (bit_xor (bit_xor a b) r) ≡ half_carry a b r
unfolding half_carry
bit_of_xor a b r =
    rw (xor_shr (bit_xor a b) r 4, xor_mod (bit_xor a b / 2 ^ 4) (r / 2 ^ 4) 1, xor_shr a b 4, xor_mod (a / 2 ^ 4) (b / 2 ^ 4) 1)

-- a bit is 1 where it is set, else 0
one_of_bit : (x : ℕ) → one_if (eqb (x % 2) 1) ≡ x % 2
one_of_bit x = agree (λ b. one_if (eqb b 1)) (λ b. b) 2 refl (x % 2) (omega arith)

pub one_of_half : (a b r : ℕ) → one_if (is_set 4 (bit_xor (bit_xor a b) r)) ≡ half_carry a b r
one_of_half a b r = one_of_bit (bit_xor (bit_xor a b) r / 2 ^ 4) ∙ bit_of_xor a b r

-- a sum by its nibbles, and the carry between them
by_nibbles : (a b c : ℕ) → (a + b + c) / 16 ≡ a / 16 + b / 16 + (a % 16 + b % 16 + c) / 16
by_nibbles a b c = omega arith

by_bits : (x y h : ℕ) → (x + y + h) % 2 ≡ (x % 2 + y % 2 + h) % 2
by_bits x y h = omega arith

under_byte : (x : ℕ) → x % 256 / 16 % 2 ≡ x / 16 % 2
under_byte x = omega arith

nibble_carry : (x y c : ℕ) → x < 16 → y < 16 → c < 2 → (x + y + c) / 16 < 2
nibble_carry x y c hx hy hc = omega arith

nibble : (x : ℕ) → x % 16 < 16
nibble x = omega arith

pub half_of_sum : (a b : ℕ) (c : Bool) → half_carry a b ((a + b + one_if c) % 256) ≡ (a % 16 + b % 16 + one_if c) / 16
half_of_sum a b c =
    by_third a b ((a + b + one_if c) % 256) h (nibble_carry (a % 16) (b % 16) (one_if c) (nibble a) (nibble b) (one_if_bit c))
    (under_byte (a + b + one_if c) ∙ ap (λ (x : ℕ). x % 2) (by_nibbles a b (one_if c)) ∙ by_bits (a / 16) (b / 16) h)
  where
    h : ℕ
    h = (a % 16 + b % 16 + one_if c) / 16

-- the upper nibble of a difference, without a borrow from it and with one, and what its lowest bit is
upper_whole : (a b c : ℕ) → b < 256 → b % 16 + c ≤ a % 16 → (a + 256 - b - c) / 16 ≡ a / 16 + 16 - b / 16
upper_whole a b c hb l = omega arith

upper_less : (a b c : ℕ) → b < 256 → c < 2 → a % 16 < b % 16 + c → (a + 256 - b - c) / 16 ≡ a / 16 + 15 - b / 16
upper_less a b c hb hc l = omega arith

whole_bits : (x y : ℕ) → y < 16 → (x + 16 - y) % 2 ≡ (x % 2 + y % 2 + 0) % 2
whole_bits x y h = omega arith

less_bits : (x y : ℕ) → y < 16 → (x + 15 - y) % 2 ≡ (x % 2 + y % 2 + 1) % 2
less_bits x y h = omega arith

upper_low : (b : ℕ) → b < 256 → b / 16 < 16
upper_low b h = omega arith

pub half_of_difference : (a b : ℕ) (c : Bool) → b < 256 → half_carry a b ((a + 256 - b - one_if c) % 256) ≡ one_if (ltb (a % 16) (b % 16 + one_if c))
half_of_difference a b c hb = by_test (λ h. half_carry a b (d % 256) ≡ h) (ltb (a % 16) (b % 16 + k)) less whole
  where
    k : ℕ
    k = one_if c

    d : ℕ
    d = a + 256 - b - k

    less : ltb (a % 16) (b % 16 + k) ≡ true → half_carry a b (d % 256) ≡ 1
    less t =
        by_third a b (d % 256) 1 (lit< tt)
        (under_byte d ∙ ap (λ (x : ℕ). x % 2) (upper_less a b k hb (one_if_bit c) (ltb-true (a % 16) (b % 16 + k) t)) ∙ less_bits (a / 16) (b / 16) (upper_low b hb))

    whole : ltb (a % 16) (b % 16 + k) ≡ false → half_carry a b (d % 256) ≡ 0
    whole t =
        by_third a b (d % 256) 0 (lit< tt)
        (under_byte d ∙ ap (λ (x : ℕ). x % 2) (upper_whole a b k hb (ltb-false (a % 16) (b % 16 + k) t)) ∙ whole_bits (a / 16) (b / 16) (upper_low b hb))

-- a sum and a difference of bytes, by the carry that the library's methods give
pub sum_parts : (a b r : ℕ) (c k : Bool) → r < 256 → r + from_bool k * 256 ≡ a + b + from_bool c → (r ≡ (a + b + one_if c) % 256) × (one_if k ≡ (a + b + one_if c) / 256)
sum_parts a b r true true h e = (omega arith, omega arith)
sum_parts a b r true false h e = (omega arith, omega arith)
sum_parts a b r false true h e = (omega arith, omega arith)
sum_parts a b r false false h e = (omega arith, omega arith)

pub difference_parts : (a b r : ℕ) (c k : Bool) → a < 256 → b < 256 → r < 256 → r + b + from_bool c ≡ a + from_bool k * 256
    → (r ≡ (a + 256 - b - one_if c) % 256) × (k ≡ ltb a (b + one_if c))
difference_parts a b r true true h l m e = (omega arith, sym (lt-ltb a (b + 1) (omega arith)))
difference_parts a b r true false h l m e = (omega arith, sym (le-ltb a (b + 1) (omega arith)))
difference_parts a b r false true h l m e = (omega arith, sym (lt-ltb a (b + 0) (omega arith)))
difference_parts a b r false false h l m e = (omega arith, sym (le-ltb a (b + 0) (omega arith)))

-- a byte turned by four bits
pub nibbles_swapped : (a : ℕ) → a < 256 → rotate_left w8 a 4 ≡ a % 16 * 16 + a / 16
nibbles_swapped a l = agree (λ x. rotate_left w8 x 4) (λ x. x % 16 * 16 + x / 16) 256 refl a l
