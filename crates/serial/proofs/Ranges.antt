-- What the legal rules say of each number.
use mathlib.Core.Path.{◌≡◌, refl}
use mathlib.Core.Bool.{Bool, true, false, ◌&&◌}
use Prim.Native.Nat.{ℕ, ◌≤◌, ◌<◌}
use native.Mathlib.Omega.{arith}
use lib.Dec.{T, eqb, ltb, eqb→eq, ltb→lt}
use borrow.Author.Tests.{eq-eqb, ne_eqb, eqb-true}
use Rattle.word.proofs.Computed.{and_left, and_right}
use Rattle.serial.specs.Transmitter.{idle, LegalTransmitter, transmitter_fits}
use Rattle.serial.specs.Receiver.{waiting, LegalReceiver, receiver_fits}
use Rattle.serial.specs.declared.Transmitter.{Transmitter}
use Rattle.serial.specs.declared.Receiver.{Receiver}

equal_both : (a m b n : ℕ) → T (eqb a m && eqb b n) → (a ≡ m) × (b ≡ n)
equal_both a m b n t = (eqb→eq a m (and_left (eqb a m) (eqb b n) t), eqb→eq b n (and_right (eqb a m) (eqb b n) t))

below_both : (a m b n : ℕ) → T (ltb a m && ltb b n) → (a < m) × (b < n)
below_both a m b n t = (ltb→lt a m (and_left (ltb a m) (ltb b n) t), ltb→lt b n (and_right (ltb a m) (ltb b n) t))

module _ (t : Transmitter) (l : LegalTransmitter t) where
  pub at_rest : t.place ≡ 0 → t ≡ idle
  unfolding transmitter_fits
  at_rest e =
      let none : eqb t.place 0 ≡ true = eq-eqb t.place 0 e in
      let rule = equal_both t.bits 0xFF t.ends 0 (rw none at l.fits) in
      rw (e, rule.0, rule.1)

  pub sending_range : (t.place < 12) × (t.ends < 16)
  unfolding transmitter_fits
  sending_range = go (eqb t.place 0) refl
    where
      go : (b : Bool) → eqb t.place 0 ≡ b → (t.place < 12) × (t.ends < 16)
      go true e =
          let none : t.place ≡ 0 = eqb-true t.place 0 e in
          rw (at_rest none) (omega arith, omega arith)
      go false e = below_both t.place 12 t.ends 16 (rw e at l.fits)

module _ (r : Receiver) (l : LegalReceiver r) where
  pub awaits_edge : r.awaited ≡ 0 → r ≡ waiting r.received
  unfolding receiver_fits
  awaits_edge e =
      let none : eqb r.awaited 0 ≡ true = eq-eqb r.awaited 0 e in
      let rule = equal_both r.shift 0xFF r.ends 0 (rw none at l.fits) in
      rw (e, rule.0, rule.1)

  pub in_start_bit : r.awaited ≡ 1 → (r.shift ≡ 0xFF) × (r.ends < 8)
  unfolding receiver_fits
  in_start_bit e =
      let rule : T (eqb r.shift 0xFF && ltb r.ends 8) = rw e at l.fits in
      (eqb→eq r.shift 0xFF (and_left (eqb r.shift 0xFF) (ltb r.ends 8) rule), ltb→lt r.ends 8 (and_right (eqb r.shift 0xFF) (ltb r.ends 8) rule))

  pub data_range : 2 ≤ r.awaited → (r.awaited < 10) × (r.ends < 16)
  unfolding receiver_fits
  data_range h =
      let some : eqb r.awaited 0 ≡ false = ne_eqb r.awaited 0 (λ e. omega arith) in
      let later : eqb r.awaited 1 ≡ false = ne_eqb r.awaited 1 (λ e. omega arith) in
      below_both r.awaited 10 r.ends 16 (rw (some, later) at l.fits)
