-- Ends, stores and edges keep what is legal; ends in a row.
use mathlib.Core.Path.{◌≡◌, refl, ap, ◌∙◌}
use mathlib.Core.Bool.{Bool, true, false, not, ◌&&◌}
use Prim.Native.Nat.{ℕ, ◌+◌, ◌%◌, ◌≤◌, ◌<◌}
use native.Mathlib.Nat.{add_comm}
use native.Mathlib.Omega.{arith}
use lib.Dec.{eqb, ltb}
use borrow.Author.Tests.{ne_eqb, lt-ltb, eqb-true, eqb-false, ltb-true}
use Rattle.std.proofs.Math.Bool.{or_assoc, or-false}
use Rattle.word.specs.Choose.{pick}
use Rattle.word.proofs.Computed.{by_test}
use Rattle.word.specs.Iter.{iter}
use Rattle.word.proofs.Iterate.{iter_keeps, iter_split, iter_past}
use Rattle.serial.specs.Parity.{with_bit7, is_odd, sent_bits, received_byte}
use Rattle.serial.specs.Transmitter.{idle, stored, sent_end, LegalTransmitter, transmitter_fits}
use Rattle.serial.specs.Receiver.{waiting, started, entered, shift_clock, shifts_at, heard_end, LegalReceiver, receiver_fits}
use Rattle.serial.specs.Port.{port_end, quiet, asked_since, more_port, port_ends, LegalPort}
use Rattle.serial.specs.declared.Transmitter.{Transmitter}
use Rattle.serial.specs.declared.Receiver.{Receiver}
use Rattle.serial.specs.declared.Clocked.{Clocked}
use Rattle.serial.specs.declared.Mode.{Mode}
use Rattle.serial.specs.declared.Port.{Port}
use Rattle.serial.specs.declared.Ended.{Ended}
use Rattle.serial.proofs.Ranges.{sending_range, awaits_edge, in_start_bit, data_range}

flagged : (parity set : Bool) (v : ℕ) → v < 256 → with_bit7 parity set v < 256
flagged true true v h = omega arith
flagged true false v h = omega arith
flagged false set v h = h

pub idle_legal : LegalTransmitter idle
unfolding transmitter_fits
idle_legal = record { bits_byte = omega arith; fits = tt }

sending_legal : (bits place ends : ℕ) → bits < 256 → 0 < place → place < 12 → ends < 16
    → LegalTransmitter (record { bits = bits; place = place; ends = ends })
unfolding transmitter_fits
sending_legal bits place ends b p q e =
    record { bits_byte = b; fits = rw (ne_eqb place 0 (λ z. omega arith), lt-ltb place 12 q, lt-ltb ends 16 e) tt }

pub stored_legal : (parity : Bool) (v : ℕ) → v < 256 → LegalTransmitter (stored parity v)
unfolding stored sent_bits
stored_legal parity v h = sending_legal _ 1 0 (flagged parity (not (is_odd (v % 128))) v h) (omega arith) (omega arith) (omega arith)

sent_legal : (t : Transmitter) → LegalTransmitter t → LegalTransmitter (sent_end t).half
unfolding sent_end
sent_legal t l =
    by_test Legal (eqb t.place 0) (λ e. l)
    (λ e.
    let busy : t.place ≡ 0 → ⊥ = eqb-false t.place 0 e in
    let place : t.place < 12 = (sending_range t l).0 in
    by_test Legal (ltb (t.ends + 1) 16) (λ f. sending_legal t.bits t.place (t.ends + 1) l.bits_byte (omega arith) place (ltb-true _ _ f))
    (λ f. by_test Legal (ltb t.place 11) (λ g. sending_legal t.bits (t.place + 1) 0 l.bits_byte (omega arith) (omega (arith, ltb-true)) (omega arith)) (λ g. idle_legal)))
  where
    Legal : Clocked Transmitter → Type 0
    Legal x = LegalTransmitter x.half

pub waiting_legal : (received : ℕ) → received < 256 → LegalReceiver (waiting received)
unfolding receiver_fits
waiting_legal received h = record { received_byte_lem = h; shift_byte = omega arith; fits = tt }

start_legal : (received ends : ℕ) → received < 256 → ends < 8 → LegalReceiver (record { received = received; shift = 0xFF; awaited = 1; ends = ends })
unfolding receiver_fits
start_legal received ends r e = record { received_byte_lem = r; shift_byte = omega arith; fits = rw (lt-ltb ends 8 e) tt }

-- the middle of a data bit awaited
pub data_legal : (received shift awaited ends : ℕ) → received < 256 → shift < 256 → 1 < awaited → awaited < 10 → ends < 16
    → LegalReceiver (record { received = received; shift = shift; awaited = awaited; ends = ends })
unfolding receiver_fits
data_legal received shift awaited ends r s a b e =
    record {
      received_byte_lem = r;
      shift_byte = s;
      fits = rw (ne_eqb awaited 0 (λ z. omega arith), ne_eqb awaited 1 (λ z. omega arith), lt-ltb awaited 10 b, lt-ltb ends 16 e) tt;
    }

entered_byte : (high : Bool) (shift : ℕ) → shift < 256 → entered high shift < 256
unfolding entered
entered_byte true shift h = omega arith
entered_byte false shift h = omega arith

-- an edge in a character is data
pub edge_is_data : (r : Receiver) → 0 < r.awaited → started r ≡ r
unfolding started
edge_is_data r h = let busy : eqb r.awaited 0 ≡ false = ne_eqb r.awaited 0 (λ e. omega arith) in rw busy

pub started_legal : (r : Receiver) → LegalReceiver r → LegalReceiver (started r)
unfolding started
started_legal r l =
    by_test LegalReceiver (eqb r.awaited 0)
    (λ e. rw (ap shift_of (awaits_edge r l (eqb-true r.awaited 0 e))) (start_legal r.received 0 l.received_byte_lem (omega arith)))
    (λ e. l)
  where
    shift_of : Receiver → ℕ
    shift_of x = x.shift

heard_legal : (parity high : Bool) (r : Receiver) → LegalReceiver r → LegalReceiver (heard_end parity high r).half
unfolding heard_end shift_clock received_byte
heard_legal parity high r l =
    by_test Legal (eqb r.awaited 0) (λ e. l)
    (λ e.
    let some : r.awaited ≡ 0 → ⊥ = eqb-false r.awaited 0 e in
    by_test Legal (ltb (r.ends + 1) (shifts_at r.awaited)) (λ f. counted some (eqb r.awaited 1) refl (ltb-true _ _ f))
    (λ f.
    by_test Legal (eqb r.awaited 1 && high) (λ g. waiting_legal r.received l.received_byte_lem)
    (λ g.
    by_test Legal (ltb r.awaited 9)
    (λ h. data_legal r.received (entered high r.shift) (r.awaited + 1) 0 l.received_byte_lem byte (omega arith) (omega (arith, ltb-true)) (omega arith))
    (λ h. waiting_legal _ (flagged parity (not (is_odd (entered high r.shift))) (entered high r.shift) byte)))))
  where
    Legal : Clocked Receiver → Type 0
    Legal x = LegalReceiver x.half

    byte : entered high r.shift < 256
    byte = entered_byte high r.shift l.shift_byte

    counted : (r.awaited ≡ 0 → ⊥) → (b : Bool) → eqb r.awaited 1 ≡ b → r.ends + 1 < pick b 8 16
        → LegalReceiver (record { received = r.received; shift = r.shift; awaited = r.awaited; ends = r.ends + 1 })
    counted z true e h =
        let first : r.awaited ≡ 1 = eqb-true r.awaited 1 e in
        rw (first, (in_start_bit r l first).0) (start_legal r.received (r.ends + 1) l.received_byte_lem h)
    counted z false e h =
        let other : r.awaited ≡ 1 → ⊥ = eqb-false r.awaited 1 e in
        let bit : 2 ≤ r.awaited = omega arith in
        data_legal r.received r.shift r.awaited (r.ends + 1) l.received_byte_lem l.shift_byte bit (data_range r l bit).0 h

-- an end keeps a port legal, and n ends do
pub end_legal : (m : Mode) (p : Port) → LegalPort p → LegalPort (port_end m p).port
unfolding port_end
end_legal m p l =
    record {
      legal_receiver = heard_legal m.parity m.high p.receiver l.legal_receiver;
      legal_transmitter = sent_legal p.transmitter l.legal_transmitter;
    }

pub ends_legal : (m : Mode) (n : ℕ) (p : Port) → LegalPort p → LegalPort (port_ends m n p).port
unfolding port_ends more_port
ends_legal m n p l = iter_keeps (more_port m) (λ (x : Ended). LegalPort x.port) (λ (x : Ended) k. end_legal m x.port k) n (quiet p) l

-- a ends and then b are a + b, and their requests come together
module _ (m : Mode) where
  more_since : (x y : Ended) → more_port m (asked_since x y) ≡ asked_since x (more_port m y)
  unfolding more_port
  more_since x y = rw (or_assoc x.asked3, or_assoc x.asked4)

  pub ends_in_a_row : (a b : ℕ) (p : Port) → port_ends m (a + b) p ≡ asked_since (port_ends m a p) (port_ends m b (port_ends m a p).port)
  unfolding port_ends
  ends_in_a_row a b p =
      let x = iter a (more_port m) (quiet p) in
      let whole : x ≡ asked_since x (quiet x.port) = rw (or-false x.asked3, or-false x.asked4) in
      iter_split (more_port m) (a + b) b a (add_comm a b) (quiet p)
      ∙ ap (iter b (more_port m)) whole
      ∙ iter_past (more_port m) (asked_since x) (more_since x) b (quiet x.port)
