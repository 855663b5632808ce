-- The receiver by the ends since the middle of its start bit: each of its 128 places is followed by the next, which is computed.
use mathlib.Core.Path.{◌≡◌, refl, ap, ◌∙◌}
use mathlib.Core.Bool.{Bool, true, false}
use Prim.Native.Nat.{ℕ, suc, ◌+◌, ◌-◌, ◌*◌, ◌/◌, ◌%◌, ◌≤◌, ◌<◌}
use native.Mathlib.Omega.{arith}
use lib.Dec.{ltb}
use borrow.Author.Tests.{lt-ltb, le-ltb}
use Rattle.word.specs.Choose.{pick}
use Rattle.word.proofs.Computed.{agree, agree2}
use Rattle.word.specs.Iter.{iter}
use Rattle.word.proofs.Iterate.{iter_fixed, iter_split, iter_zero}
use Rattle.serial.specs.Clocked.{unasked}
use Rattle.serial.specs.Parity.{received_byte}
use Rattle.serial.specs.Receiver.{waiting, entered, shift_clock, heard_end, LegalReceiver}
use Rattle.serial.specs.ForCode.{more_heard, heard_ends}
use Rattle.serial.specs.declared.Receiver.{Receiver}
use Rattle.serial.specs.declared.Clocked.{Clocked}
use Rattle.serial.proofs.Walk.{walk, walk_out}
use Rattle.serial.proofs.Ranges.{awaits_edge, in_start_bit, data_range}

module _ (parity high : Bool) where
  -- b data bits being in when the shift register held s, d ends after the middle of the start bit
  abbrev pub under_way : ℕ → ℕ → ℕ → ℕ → Clocked Receiver
  under_way received s b d =
      unasked (record { received = received; shift = iter (d / 16 - b) (entered high) s; awaited = d / 16 + 2; ends = d % 16 })

  abbrev pub assembled : ℕ → ℕ → Clocked Receiver
  assembled s b = record { half = waiting (received_byte parity (iter (8 - b) (entered high) s)); asked = true }

  abbrev heard_at : ℕ → ℕ → ℕ → ℕ → Clocked Receiver
  heard_at received s b d = pick (ltb d 128) (under_way received s b d) (assembled s b)

  -- from there on, that is
  abbrev since : ℕ → ℕ → Clocked Receiver → Clocked Receiver
  since b d x = pick (ltb d (16 * b)) (unasked (waiting 0)) x

  next : (received s b d : ℕ) → b < 8 → 16 * b ≤ d → d < 128 → more_heard parity high (heard_at received s b d) ≡ heard_at received s b (suc d)
  unfolding more_heard heard_end shift_clock iter
  next received s b d hb l h =
      rw (le-ltb d (16 * b) l)
      at (agree2 (λ b d. since b d (more_heard parity high (heard_at received s b d))) (λ b d. since b d (heard_at received s b (suc d))) 8 128 refl b d hb h)

  pub idles : (received n : ℕ) → heard_ends parity high n (waiting received) ≡ unasked (waiting received)
  unfolding heard_ends more_heard heard_end shift_clock
  idles received n = iter_fixed (more_heard parity high) (unasked (waiting received)) refl n

  pub waits : (r : Receiver) → LegalReceiver r → r.awaited ≡ 0 → (n : ℕ) → heard_ends parity high n r ≡ unasked r
  waits r l e n = rw (awaits_edge r l e) (idles r.received n)

  rests : (received s b : ℕ) → more_heard parity high (heard_at received s b 128) ≡ heard_at received s b 128
  unfolding more_heard heard_end shift_clock
  rests received s b = refl

  module _ (r : Receiver) (l : LegalReceiver r) (p : 2 ≤ r.awaited) where
    abbrev before : ℕ
    before = r.awaited - 2

    abbrev gone : ℕ
    gone = 16 * before + r.ends

    begun : unasked r ≡ heard_at r.received r.shift before gone
    begun =
        let g : gone < 128 = omega (arith, data_range r l p) in
        let awaited : gone / 16 + 2 ≡ r.awaited = omega (arith, data_range r l p) in
        let ends : gone % 16 ≡ r.ends = omega (arith, data_range r l p) in
        let none : gone / 16 - before ≡ 0 = omega (arith, data_range r l p) in
        rw (lt-ltb gone 128 g, awaited, ends, none, iter_zero (entered high) r.shift)

    along : (d : ℕ) → 16 * before ≤ d → d < 128
        → more_heard parity high (heard_at r.received r.shift before d) ≡ heard_at r.received r.shift before (suc d)
    along d a b = next r.received r.shift before d (omega (arith, data_range r l p)) a b

    -- n ends on: as many bits and ends after the middle of the start bit as there were, and n
    pub hears_on : (n bits ends : ℕ) → 16 * bits + ends ≡ gone + n → bits < 8 → ends < 16
        → heard_ends parity high n r ≡ unasked (record { received = r.received; shift = iter (bits - before) (entered high) r.shift; awaited = bits + 2; ends = ends })
    unfolding heard_ends
    hears_on n bits ends e some within =
        let there : n + gone ≡ 16 * bits + ends = omega arith in
        let under : 16 * bits + ends < 128 = omega arith in
        let whole : (16 * bits + ends) / 16 ≡ bits = omega arith in
        let count : (16 * bits + ends) % 16 ≡ ends = omega arith in
        ap (iter n (more_heard parity high)) begun
        ∙ walk (more_heard parity high) (heard_at r.received r.shift before) (16 * before) 128 along n gone (omega arith) (omega arith)
        ∙ rw (there, lt-ltb _ 128 under, whole, count)

    pub hears_out : (n : ℕ) → 128 ≤ gone + n → heard_ends parity high n r ≡ assembled r.shift before
    unfolding heard_ends
    hears_out n h =
        ap (iter n (more_heard parity high)) begun
        ∙ walk_out (more_heard parity high) (heard_at r.received r.shift before) (16 * before) 128 along (rests r.received r.shift before) n gone (omega arith) (omega (arith, data_range r l p)) (omega arith)

  -- to the middle of the start bit, d ends after the edge, and there
  abbrev edge_at : ℕ → ℕ → Receiver
  edge_at received d = record { received = received; shift = 0xFF; awaited = 1; ends = d }

  abbrev pub in_data : ℕ → Receiver
  in_data received = record { received = received; shift = 0x7F; awaited = 2; ends = 0 }

  abbrev at_level : Bool → ℕ → ℕ → Clocked Receiver
  at_level b received d = pick (ltb d 8) (unasked (edge_at received d)) (unasked (pick b (waiting received) (in_data received)))

  abbrev looked_at : ℕ → ℕ → Clocked Receiver
  looked_at = at_level high

  nears : (received d : ℕ) → 0 ≤ d → d < 8 → more_heard parity high (looked_at received d) ≡ looked_at received (suc d)
  unfolding more_heard heard_end shift_clock entered
  nears received d l h = go high
    where
      go : (b : Bool) → more_heard parity b (at_level b received d) ≡ at_level b received (suc d)
      go true = agree (λ d. more_heard parity true (at_level true received d)) (λ d. at_level true received (suc d)) 8 refl d h
      go false = agree (λ d. more_heard parity false (at_level false received d)) (λ d. at_level false received (suc d)) 8 refl d h

  module _ (r : Receiver) (l : LegalReceiver r) (p : r.awaited ≡ 1) where
    edge_begun : unasked r ≡ looked_at r.received r.ends
    edge_begun = rw (lt-ltb r.ends 8 (in_start_bit r l p).1, ← (in_start_bit r l p).0, ← p)

    pub starts_on : (n : ℕ) → r.ends + n < 8
        → heard_ends parity high n r ≡ unasked (record { received = r.received; shift = r.shift; awaited = r.awaited; ends = r.ends + n })
    unfolding heard_ends
    starts_on n h =
        let there : n + r.ends ≡ r.ends + n = omega arith in
        ap (iter n (more_heard parity high)) edge_begun
        ∙ walk (more_heard parity high) (looked_at r.received) 0 8 (nears r.received) n r.ends (omega arith) (omega arith)
        ∙ rw (there, lt-ltb (r.ends + n) 8 h, (in_start_bit r l p).0, p)

    starts_out : (n k : ℕ) → r.ends + n ≡ 8 + k
        → heard_ends parity high n r ≡ heard_ends parity high k (pick high (waiting r.received) (in_data r.received))
    unfolding heard_ends
    starts_out n k e =
        let f = more_heard parity high in
        let ends : r.ends < 8 = (in_start_bit r l p).1 in
        let there : 8 - r.ends + r.ends ≡ 8 = omega arith in
        iter_split f n k (8 - r.ends) (omega arith) (unasked r)
        ∙ ap (λ (x : Clocked Receiver). iter k f (iter (8 - r.ends) f x)) edge_begun
        ∙ ap (iter k f) (walk f (looked_at r.received) 0 8 (nears r.received) (8 - r.ends) r.ends (omega arith) (omega arith) ∙ rw there)

    pub false_start_out : high ≡ true → (n : ℕ) → 8 ≤ r.ends + n → heard_ends parity high n r ≡ unasked (waiting r.received)
    false_start_out e n h =
        let k = r.ends + n - 8 in
        starts_out n k (omega arith) ∙ ap (λ (b : Bool). heard_ends parity high k (pick b (waiting r.received) (in_data r.received))) e ∙ idles r.received k

    pub start_out : high ≡ false → (n k : ℕ) → r.ends + n ≡ 8 + k → heard_ends parity high n r ≡ heard_ends parity high k (in_data r.received)
    start_out e n k there =
        starts_out n k there ∙ ap (λ (b : Bool). heard_ends parity high k (pick b (waiting r.received) (in_data r.received))) e

-- to the middle of the start bit
pub ruleset to_the_middle = (in_start_bit, waits, starts_on, false_start_out)
