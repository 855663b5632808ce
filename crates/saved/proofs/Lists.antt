-- The places that have to be zero, as a part of the list.
use Rattle.std.proofs.Common.{◌≡◌, ℕ, zero, suc, ◌+◌, ◌≤◌, ◌<◌, List, length, take, drop, refl, ap, arith, drop-cons, add-one}
use Rattle.std.specs.List.{list_all}
use Rattle.std.specs.Prelude.{eqb, ◌&&◌}
use Rattle.saved.specs.Saved.{byte, zeros}

pub zeros_all : (s : List ℕ) (n i : ℕ) → i + n ≤ length s → list_all (λ b. eqb b 0) (take n (drop i s)) ≡ zeros s i n
zeros_all s zero i h = refl
zeros_all s (suc n) i h =
    let k : i < length s = omega arith in
    rw (drop-cons s i 0) (rw (← add-one i) (ap (λ t. eqb (byte s i) 0 && t) (zeros_all s n (i + 1) (omega arith))))
