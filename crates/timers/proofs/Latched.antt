-- Laws of a latched request: often is as good as once, and the order doesn't matter.
use mathlib.Core.Path.{◌≡◌, refl, ap, ap₂, sym, ◌∙◌}
use mathlib.Core.Bool.{Bool, true, false, ◌||◌}
use Prim.Native.Nat.{ℕ, zero, suc, ◌+◌, ◌*◌, ◌/◌, ◌%◌, ◌^◌, ◌≤◌, ◌<◌, max}
use native.Mathlib.Omega.{arith}
use lib.Arith.{bin_ind}
use lib.Dec.{T, eqb, ltb, lt→ltb, ltb→lt, eqb→eq}
use lib.Bits.{bit_or, or_comm, or_self, or_step, or_shr, or_mod, or_lt}
use Rattle.word.specs.Choose.{pick}
use Rattle.word.proofs.Computed.{at, agree3}
use Rattle.word.specs.Iter.{iter}
use Rattle.timers.specs.Requests.{latch, latched_if, requests_fit}
use Rattle.timers.specs.declared.RequestRegister.{RequestRegister}
use Rattle.word.proofs.Iterate.{iter_suc, iter_fixed, iter_past}

-- the register with IRQ as given
abbrev irq_at : RequestRegister → ℕ → RequestRegister
irq_at r irq = record { irq = irq; released = r.released }

-- a request releases nothing; and held, the register stays as it is
pub latch_keeps_mark : (n : ℕ) (r : RequestRegister) → (latch n r).released ≡ r.released
unfolding latch
latch_keeps_mark n r = refl

pub held_latch : (n : ℕ) (r : RequestRegister) → r.released ≡ false → latch n r ≡ r
unfolding latch
held_latch n r e =
    let irq_stays : (latch n r).irq ≡ r.irq = rw e in
    ap (irq_at r) irq_stays

or_assoc : (a b c : ℕ) → bit_or (bit_or a b) c ≡ bit_or a (bit_or b c)
or_assoc a =
    bin_ind
    (λ (n : ℕ). (b c : ℕ) → bit_or (bit_or n b) c ≡ bit_or n (bit_or b c))
    (λ b c. refl)
    (λ n ih b c.
    or_step (bit_or n b) c
    ∙ ap₂ (λ (x y : ℕ). bit_or x (c / 2) * 2 + max y (c % 2)) (or_shr n b 1) (or_mod n b 1)
    ∙ ap₂ (λ (x y : ℕ). x * 2 + y) (ih (b / 2) (c / 2)) (digit (n % 2) (b % 2) (c % 2) (omega arith) (omega arith) (omega arith))
    ∙ sym (ap₂ (λ (x y : ℕ). bit_or (n / 2) x * 2 + max (n % 2) y) (or_shr b c 1) (or_mod b c 1))
    ∙ sym (or_step n (bit_or b c)))
    a
  where
    digit : (x y z : ℕ) → x < 2 → y < 2 → z < 2 → max (bit_or x y) z ≡ max x (bit_or y z)
    digit = agree3 (λ x y z. max (bit_or x y) z) (λ x y z. max x (bit_or y z)) 2 2 2 refl

-- a byte with bit n set, or as it was
abbrev bit_if : Bool → ℕ → ℕ → ℕ
bit_if b n irq = pick b (bit_or irq (2 ^ n)) irq

bit_again : (b : Bool) (n irq : ℕ) → bit_if b n (bit_if b n irq) ≡ bit_if b n irq
bit_again true n irq = or_assoc irq (2 ^ n) (2 ^ n) ∙ ap (bit_or irq) (or_self (2 ^ n))
bit_again false n irq = refl

bit_swap : (b : Bool) (m n irq : ℕ) → bit_if b m (bit_if b n irq) ≡ bit_if b n (bit_if b m irq)
bit_swap true m n irq = or_assoc irq (2 ^ n) (2 ^ m) ∙ ap (bit_or irq) (or_comm (2 ^ n) (2 ^ m)) ∙ sym (or_assoc irq (2 ^ m) (2 ^ n))
bit_swap false m n irq = refl

pub latch_again : (n : ℕ) (r : RequestRegister) → latch n (latch n r) ≡ latch n r
unfolding latch
latch_again n r = ap (irq_at r) (bit_again r.released n r.irq)

pub latch_swap : (m n : ℕ) (r : RequestRegister) → latch m (latch n r) ≡ latch n (latch m r)
unfolding latch
latch_swap m n r = ap (irq_at r) (bit_swap r.released m n r.irq)

-- some times is once
pub latch_often : (n e : ℕ) (r : RequestRegister) → 0 < e → iter e (latch n) r ≡ latch n r
latch_often n zero r h = absurd (omega arith)
latch_often n (suc e) r h =
    iter_suc (latch n) e r ∙ sym (iter_past (latch n) (latch n) (λ (x : RequestRegister). refl) e r) ∙ iter_fixed (latch n) (latch n r) (latch_again n r) e

-- what fits is zero where it is held, and below 64; zero fits, as do fewer requests, and as do the same released
pub fits_zero : (r : RequestRegister) → T (requests_fit r) → r.released ≡ false → r.irq ≡ 0
unfolding requests_fit
fits_zero r t e =
    let none : T (eqb r.irq 0) = rw e at t in
    eqb→eq r.irq 0 none

pub fits_irq : (r : RequestRegister) → T (requests_fit r) → r.irq < 64
unfolding requests_fit
fits_irq r t = go r.released t
  where
    go : (b : Bool) → T (pick b (ltb r.irq 64) (eqb r.irq 0)) → r.irq < 64
    go true u = ltb→lt r.irq 64 u
    go false u = omega (arith, eqb→eq r.irq 0 u)

pub fewer_fit : (r : RequestRegister) (v : ℕ) → T (requests_fit r) → v ≤ r.irq → T (requests_fit (record { irq = v; released = r.released }))
unfolding requests_fit
fewer_fit r v t h = go r.released refl
  where
    go : (b : Bool) → r.released ≡ b → T (pick b (ltb v 64) (eqb v 0))
    go true e = lt→ltb v 64 (omega (arith, h, fits_irq r t))
    go false e =
        let none : v ≡ 0 = omega (arith, h, fits_zero r t e) in
        rw none tt

pub zero_fits : (b : Bool) → T (requests_fit (record { irq = 0; released = b }))
unfolding requests_fit
zero_fits true = tt
zero_fits false = tt

pub released_fits : (irq : ℕ) → irq < 64 → T (requests_fit (record { irq = irq; released = true }))
unfolding requests_fit
released_fits irq h = lt→ltb irq 64 h

pub latch_fits : (n : ℕ) (r : RequestRegister) → n < 6 → T (requests_fit r) → T (requests_fit (latch n r))
unfolding latch requests_fit
latch_fits n r h t = go r.released t
  where
    go : (b : Bool) → T (pick b (ltb r.irq 64) (eqb r.irq 0)) → T (pick b (ltb (bit_if b n r.irq) 64) (eqb (bit_if b n r.irq) 0))
    go true u =
        let small : bit_or r.irq (2 ^ n) < 64 =
        or_lt 6 r.irq (2 ^ n) (fits_irq r t) (ltb→lt (2 ^ n) 64 (at (λ x. ltb (2 ^ x) 64) 6 tt n h)) in
        lt→ltb (bit_or r.irq (2 ^ n)) 64 small
    go false u = u

-- requests asked for, or not: asked for twice is once, and the order doesn't matter
pub if_or : (n : ℕ) (a b : Bool) (r : RequestRegister) → latched_if b n (latched_if a n r) ≡ latched_if (a || b) n r
unfolding latched_if
if_or n true true r = latch_again n r
if_or n true false r = refl
if_or n false true r = refl
if_or n false false r = refl

pub if_past : (m n : ℕ) (a : Bool) (r : RequestRegister) → latched_if a m (latch n r) ≡ latch n (latched_if a m r)
unfolding latched_if
if_past m n true r = latch_swap m n r
if_past m n false r = refl

pub if_swap : (m n : ℕ) (a b : Bool) (r : RequestRegister) → latched_if a m (latched_if b n r) ≡ latched_if b n (latched_if a m r)
unfolding latched_if
if_swap m n a true r = if_past m n a r
if_swap m n a false r = refl

pub if_fits : (asked : Bool) (n : ℕ) (r : RequestRegister) → n < 6 → T (requests_fit r) → T (requests_fit (latched_if asked n r))
unfolding latched_if
if_fits true n r h t = latch_fits n r h t
if_fits false n r h t = t
