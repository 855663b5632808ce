-- What some ends of a timer do, by their number.
use mathlib.Core.Path.{◌≡◌, refl, ap, ◌∙◌}
use mathlib.Core.Bool.{Bool, true, false, not, ◌||◌}
use Prim.Native.Nat.{ℕ, zero, suc, ◌%◌, ◌<◌}
use native.Mathlib.Decide.{dec_lt}
use native.Mathlib.Omega.{arith}
use lib.Dec.{eqb, ltb}
use borrow.Author.Tests.{lt-ltb}
use Rattle.std.proofs.Math.Bool.{not-not}
use Rattle.word.specs.Choose.{pick}
use Rattle.word.specs.Iter.{iter}
use Rattle.serial.specs.Port.{port_end, quiet, more_port, port_ends}
use Rattle.serial.specs.declared.Mode.{Mode}
use Rattle.timers.specs.Requests.{latch, latched_if}
use Rattle.timers.specs.Clock.{end_of, flips, asked_for, bit_clock, end0_of}
use Rattle.timers.specs.declared.Setup.{Setup}
use Rattle.timers.specs.declared.RequestRegister.{RequestRegister}
use Rattle.timers.specs.declared.Lines.{Lines}
use Rattle.word.proofs.Iterate.{iter_zero, iter_suc, iter_fixed}
use Rattle.timers.proofs.Latched.{latch_often, latch_swap, if_or, if_past, if_swap}

-- T_OUT by the parity of the ends, where the timer drives it
abbrev turned : Bool → Bool → Bool
turned odd tout = pick odd (not tout) tout

pub level_driven : (e : ℕ) (tout : Bool) → iter e (flips true) tout ≡ turned (eqb (e % 2) 1) tout
level_driven zero tout = iter_zero (flips true) tout
level_driven (suc e) tout =
    iter_suc (flips true) e tout ∙ ap (flips true) (level_driven e tout) ∙ go (dec_lt (e % 2) 1)
  where
    go : Dec (e % 2 < 1) → not (turned (eqb (e % 2) 1) tout) ≡ turned (eqb (suc e % 2) 1) tout
    go (yes h) =
        let even : e % 2 ≡ 0 = omega arith in
        let odd : suc e % 2 ≡ 1 = omega arith in
        rw (even, odd)
    go (no h) =
        let odd : e % 2 ≡ 1 = omega arith in
        let even : suc e % 2 ≡ 0 = omega arith in
        rw (odd, even) (not-not tout)

pub level_kept : (e : ℕ) (tout : Bool) → iter e (flips false) tout ≡ tout
level_kept e tout = iter_fixed (flips false) tout refl e

flips_swap : (a b tout : Bool) → flips a (flips b tout) ≡ flips b (flips a tout)
flips_swap true true tout = refl
flips_swap true false tout = refl
flips_swap false true tout = refl
flips_swap false false tout = refl

-- some requests are one, and none is none
pub requests_after : (n e : ℕ) (r : RequestRegister) → iter e (latch n) r ≡ latched_if (ltb 0 e) n r
unfolding latched_if
requests_after n zero r = iter_zero (latch n) r
requests_after n (suc e) r =
    let some : ltb 0 (suc e) ≡ true = lt-ltb 0 (suc e) (omega arith) in
    rw some (latch_often n (suc e) r (omega arith))

-- part by part
pub ends_apart : (s : Setup) (e : ℕ) (l : Lines)
    → iter e (end_of s) l ≡ record { requests = iter e (latch s.request) l.requests; tout = iter e (flips s.drives) l.tout; port = l.port }
unfolding end_of iter
ends_apart s zero l = refl
ends_apart s (suc e) l = ap (end_of s) (ends_apart s e l)

-- the port's requests, and then its requests again
asked_again : (a b c d : Bool) (r : RequestRegister) → asked_for c d (asked_for a b r) ≡ asked_for (a || c) (b || d) r
unfolding asked_for
asked_again a b c d r =
    ap (latched_if c 3) (if_swap 4 3 d a (latched_if b 4 r)) ∙ if_or 3 a c (latched_if d 4 (latched_if b 4 r)) ∙ ap (latched_if (a || c) 3) (if_or 4 b d r)

asked_past : (n : ℕ) (a b : Bool) (r : RequestRegister) → asked_for a b (latch n r) ≡ latch n (asked_for a b r)
unfolding asked_for
asked_past n a b r = ap (latched_if a 3) (if_past 4 n b r) ∙ if_past 3 n a (latched_if b 4 r)

-- an end of T0 while the serial port is on, and while it is off
end_on : (m : Mode) (s : Setup) (l : Lines) → m.on ≡ true → end0_of m s l ≡ bit_clock m s l
unfolding end0_of
end_on m s l e = ap (λ (b : Bool). pick b (bit_clock m s l) (end_of s l)) e

end_off : (m : Mode) (s : Setup) (l : Lines) → m.on ≡ false → end0_of m s l ≡ end_of s l
unfolding end0_of
end_off m s l e = ap (λ (b : Bool). pick b (bit_clock m s l) (end_of s l)) e

-- and some of them: on, they are as many ends of the port; off, as many of any timer
pub ends_on : (m : Mode) (s : Setup) (e : ℕ) (l : Lines) → m.on ≡ true
    → iter e (end0_of m s) l
    ≡ record {
      requests = asked_for (port_ends m e l.port).asked3 (port_ends m e l.port).asked4 l.requests;
      tout = iter e (flips s.drives) l.tout;
      port = (port_ends m e l.port).port;
    }
unfolding iter port_ends more_port bit_clock asked_for latched_if
ends_on m s zero l on = refl
ends_on m s (suc e) l on =
    let x = iter e (more_port m) (quiet l.port) in
    let y = port_end m x.port in
    ap (end0_of m s) (ends_on m s e l on) ∙ end_on m s _ on ∙ rw (asked_again x.asked3 x.asked4 y.asked3 y.asked4 l.requests)

pub ends_off : (m : Mode) (s : Setup) (e : ℕ) (l : Lines) → m.on ≡ false → iter e (end0_of m s) l ≡ iter e (end_of s) l
unfolding iter
ends_off m s zero l off = refl
ends_off m s (suc e) l off = end_off m s _ off ∙ ap (end_of s) (ends_off m s e l off)

-- what an end of T0 and an end of another timer do may be done in either order
pub ends_swap : (m : Mode) (a b : Setup) (l : Lines) → end0_of m a (end_of b l) ≡ end_of b (end0_of m a l)
unfolding end_of end0_of bit_clock
ends_swap m a b l = go m.on
  where
    go : (on : Bool) → pick on (bit_clock m a (end_of b l)) (end_of a (end_of b l)) ≡ end_of b (pick on (bit_clock m a l) (end_of a l))
    go true =
        let x = port_end m l.port in
        rw (asked_past b.request x.asked3 x.asked4 l.requests, flips_swap a.drives b.drives l.tout)
    go false = rw (latch_swap a.request b.request l.requests, flips_swap a.drives b.drives l.tout)
