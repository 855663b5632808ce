-- The port's ends are each half's ends, and after 176 of them both are at rest.
use mathlib.Core.Path.{◌≡◌, refl, ap}
use mathlib.Core.Bool.{Bool, true, false}
use Prim.Native.Nat.{ℕ, zero, suc, ◌+◌, ◌-◌, ◌≤◌, ◌<◌}
use native.Mathlib.Decide.{dec_lt}
use native.Mathlib.Omega.{arith}
use Rattle.word.specs.Iter.{iter}
use Rattle.serial.specs.Transmitter.{idle, LegalTransmitter}
use Rattle.serial.specs.Receiver.{waiting, LegalReceiver}
use Rattle.serial.specs.Port.{both, port_end, more_port, port_ends, LegalPort}
use Rattle.serial.specs.ForCode.{more_sent, sent_ends, more_heard, heard_ends}
use Rattle.serial.specs.declared.Transmitter.{Transmitter}
use Rattle.serial.specs.declared.Receiver.{Receiver}
use Rattle.serial.specs.declared.Mode.{Mode}
use Rattle.serial.specs.declared.Port.{Port}
use Rattle.serial.proofs.Ranges.{at_rest, awaits_edge}
use Rattle.serial.proofs.Transmission.{sends_none, sends_out}
use Rattle.serial.proofs.Reception.{waits, hears_out, false_start_out, start_out, in_data}
use Rattle.serial.proofs.Theorems.{data_legal}

pub halves_apart : (m : Mode) (n : ℕ) (p : Port)
    → port_ends m n p ≡ both (heard_ends m.parity m.high n p.receiver) (sent_ends n p.transmitter)
unfolding port_ends more_port port_end sent_ends more_sent heard_ends more_heard iter
halves_apart m zero p = refl
halves_apart m (suc n) p = ap (more_port m) (halves_apart m n p)

abbrev waits_again : Receiver → Type 0
waits_again r = r ≡ waiting r.received

sender_rests : (n : ℕ) → 176 ≤ n → (t : Transmitter) → LegalTransmitter t → (sent_ends n t).half ≡ idle
sender_rests n h t l = go (dec_lt 0 t.place)
  where
    go : Dec (0 < t.place) → (sent_ends n t).half ≡ idle
    go (yes p) = rw (sends_out t l p n (omega arith))
    go (no p) = let none : t.place ≡ 0 = omega arith in rw (sends_none t l none n) (at_rest t l none)

module _ (parity high : Bool) where
  data_rests : (n : ℕ) → 128 ≤ n → (r : Receiver) → LegalReceiver r → 2 ≤ r.awaited → waits_again (heard_ends parity high n r).half
  data_rests n h r l p = rw (hears_out parity high r l p n (omega arith))

  hearer_rests : (n : ℕ) → 176 ≤ n → (r : Receiver) → LegalReceiver r → waits_again (heard_ends parity high n r).half
  hearer_rests n h r l = go (dec_lt 0 r.awaited) (dec_lt 1 r.awaited)
    where
      start : r.awaited ≡ 1 → (b : Bool) → high ≡ b → waits_again (heard_ends parity high n r).half
      start one true e = rw (false_start_out parity high r l one e n (omega arith))
      start one false e =
          let begun : LegalReceiver (in_data parity high r.received) = data_legal r.received 0x7F 2 0 l.received_byte_lem (omega arith) (omega arith) (omega arith) (omega arith) in
          rw (start_out parity high r l one e n (r.ends + n - 8) (omega arith)) (data_rests (r.ends + n - 8) (omega arith) (in_data parity high r.received) begun (omega arith))

      go : Dec (0 < r.awaited) → Dec (1 < r.awaited) → waits_again (heard_ends parity high n r).half
      go (no p) q = let none : r.awaited ≡ 0 = omega arith in rw (waits parity high r l none n) (awaits_edge r l none)
      go (yes p) (yes q) = data_rests n (omega arith) r l q
      go (yes p) (no q) = start (omega arith) high refl

pub at_rest_after_176 : (m : Mode) (n : ℕ) (p : Port) → LegalPort p → 176 ≤ n
    → ((port_ends m n p).port.transmitter ≡ idle) × waits_again (port_ends m n p).port.receiver
at_rest_after_176 m n p l h =
    rw (halves_apart m n p)
    (sender_rests n h p.transmitter l.legal_transmitter, hearer_rests m.parity m.high n h p.receiver l.legal_receiver)
