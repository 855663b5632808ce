-- The transmitter by the ends since its store: each of its 176 places is followed by the next, which is computed.
use mathlib.Core.Path.{◌≡◌, refl, ap, ◌∙◌}
use mathlib.Core.Bool.{true}
use Prim.Native.Nat.{ℕ, suc, ◌+◌, ◌-◌, ◌*◌, ◌/◌, ◌%◌, ◌≤◌, ◌<◌}
use native.Mathlib.Omega.{arith}
use lib.Dec.{ltb}
use borrow.Author.Tests.{lt-ltb}
use Rattle.word.specs.Choose.{pick}
use Rattle.word.proofs.Computed.{agree}
use Rattle.word.specs.Iter.{iter}
use Rattle.word.proofs.Iterate.{iter_fixed}
use Rattle.serial.specs.Clocked.{unasked}
use Rattle.serial.specs.Transmitter.{idle, sent_end, LegalTransmitter}
use Rattle.serial.specs.ForCode.{more_sent, sent_ends}
use Rattle.serial.specs.declared.Transmitter.{Transmitter}
use Rattle.serial.specs.declared.Clocked.{Clocked}
use Rattle.serial.proofs.Walk.{walk, walk_out}
use Rattle.serial.proofs.Ranges.{at_rest, sending_range}

abbrev on_the_way : ℕ → ℕ → Clocked Transmitter
on_the_way bits d = unasked (record { bits = bits; place = d / 16 + 1; ends = d % 16 })

abbrev sent_at : ℕ → ℕ → Clocked Transmitter
sent_at bits d = pick (ltb d 176) (on_the_way bits d) (record { half = idle; asked = true })

next : (bits d : ℕ) → 0 ≤ d → d < 176 → more_sent (sent_at bits d) ≡ sent_at bits (suc d)
unfolding more_sent sent_end
next bits d l h = agree (λ d. more_sent (sent_at bits d)) (λ d. sent_at bits (suc d)) 176 refl d h

rests : (bits : ℕ) → more_sent (sent_at bits 176) ≡ sent_at bits 176
unfolding more_sent sent_end
rests bits = refl

pub sends_none : (t : Transmitter) → LegalTransmitter t → t.place ≡ 0 → (n : ℕ) → sent_ends n t ≡ unasked t
unfolding sent_ends more_sent sent_end
sends_none t l e n = iter_fixed more_sent (unasked t) (rw (at_rest t l e)) n

module _ (t : Transmitter) (l : LegalTransmitter t) (p : 0 < t.place) where
  abbrev gone : ℕ
  gone = 16 * (t.place - 1) + t.ends

  begun : unasked t ≡ sent_at t.bits gone
  begun =
      let g : gone < 176 = omega (arith, sending_range t l) in
      let place : gone / 16 + 1 ≡ t.place = omega (arith, sending_range t l) in
      let ends : gone % 16 ≡ t.ends = omega (arith, sending_range t l) in
      rw (lt-ltb gone 176 g, place, ends)

  -- n ends on: as many bits and ends after the store as there were, and n
  pub sends_on : (n place ends : ℕ) → 16 * (place - 1) + ends ≡ gone + n → 0 < place → place < 12 → ends < 16
      → sent_ends n t ≡ unasked (record { bits = t.bits; place = place; ends = ends })
  unfolding sent_ends
  sends_on n place ends e low high within =
      let there : n + gone ≡ 16 * (place - 1) + ends = omega arith in
      let under_way : 16 * (place - 1) + ends < 176 = omega arith in
      let bit : (16 * (place - 1) + ends) / 16 + 1 ≡ place = omega arith in
      let count : (16 * (place - 1) + ends) % 16 ≡ ends = omega arith in
      ap (iter n more_sent) begun
      ∙ walk more_sent (sent_at t.bits) 0 176 (next t.bits) n gone (omega arith) (omega arith)
      ∙ rw (there, lt-ltb _ 176 under_way, bit, count)

  pub sends_out : (n : ℕ) → 176 ≤ gone + n → sent_ends n t ≡ record { half = idle; asked = true }
  unfolding sent_ends
  sends_out n h =
      ap (iter n more_sent) begun
      ∙ walk_out more_sent (sent_at t.bits) 0 176 (next t.bits) (rests t.bits) n gone (omega arith) (omega (arith, sending_range t l)) (omega arith)
