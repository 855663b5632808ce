-- The definition tried: every byte, sent and received.
use mathlib.Core.Path.{◌≡◌, refl, ap, ◌∙◌}
use mathlib.Core.Bool.{Bool, true, false, not}
use Prim.Native.Nat.{ℕ, ◌+◌, ◌*◌, ◌%◌, ◌<◌}
use Rattle.word.specs.Fields.{is_set}
use Rattle.word.proofs.Computed.{agree, agree2}
use Rattle.word.specs.Iter.{iter}
use Rattle.word.proofs.Iterate.{iter_add, iter_fixed}
use Rattle.serial.specs.Clocked.{unasked}
use Rattle.serial.specs.Parity.{is_odd, sent_bits, received_byte}
use Rattle.serial.specs.Transmitter.{idle, stored, level_of, sent_end}
use Rattle.serial.specs.Receiver.{waiting, started, entered, shift_clock, heard_end}
use Rattle.serial.specs.Port.{port_end, quiet, more_port}
use Rattle.serial.specs.ForCode.{more_sent, sent_ends, more_heard, heard_ends}
use Rattle.serial.specs.declared.Ended.{Ended}

-- request 4 comes with the 176th end after the store and not before
pub sent_with_176 : (parity : Bool) (v : ℕ) → ((sent_ends 175 (stored parity v)).asked ≡ false) × (sent_ends 176 (stored parity v) ≡ record { half = idle; asked = true })
unfolding iter sent_ends more_sent sent_end stored
sent_with_176 parity v = (refl, refl)

-- P37 is low for 16 ends from the store; then the bits go out, the lowest first, each for 16 ends; then it is high
pub start_bit_low : (parity : Bool) (v d : ℕ) → d < 16 → level_of (sent_ends d (stored parity v)).half ≡ false
unfolding iter sent_ends more_sent sent_end stored level_of
start_bit_low parity v d h = agree (λ e. level_of (sent_ends e (stored parity v)).half) (λ e. false) 16 refl d h

pub low_bit_first : (parity : Bool) (v i d : ℕ) → i < 8 → d < 16
    → level_of (sent_ends (16 * i + 16 + d) (stored parity v)).half ≡ is_set i (sent_bits parity v)
unfolding iter sent_ends more_sent sent_end stored level_of
low_bit_first parity v i d hi hd =
    agree2 (λ j e. level_of (sent_ends (16 * j + 16 + e) (stored parity v)).half) (λ j e. is_set j (sent_bits parity v)) 8 16 refl i d hi hd

pub stop_bits_high : (parity : Bool) (v d : ℕ) → d < 64 → level_of (sent_ends (144 + d) (stored parity v)).half ≡ true
unfolding iter sent_ends more_sent sent_end stored level_of
stop_bits_high parity v d h = agree (λ e. level_of (sent_ends (144 + e) (stored parity v)).half) (λ e. true) 64 refl d h

-- P37 joined to P30: one end more, and n ends after a store and the start edge that it makes
abbrev joined : Bool → Ended → Ended
joined parity x = more_port (record { on = true; parity = parity; high = level_of x.port.transmitter }) x

abbrev echo : Bool → ℕ → ℕ → Ended
echo parity n v = iter n (joined parity) (quiet (record { receiver = started (waiting 0); transmitter = stored parity v }))

-- a byte sent is received with the 136th end and not before; with parity its seven bits, and no error
abbrev HeardAs : Bool → (ℕ → ℕ) → ℕ → Type 0
HeardAs parity f v =
    ((echo parity 135 v).asked3 ≡ false) × ((echo parity 136 v).asked3 ≡ true) × ((echo parity 136 v).port.receiver ≡ waiting (f v))

module _ (v : ℕ) (h : v < 256) where
  -- with parity the eight bits have an odd number of ones, and seven are the byte's
  pub sent_odd : (is_odd (sent_bits true v) ≡ true) × (sent_bits true v % 128 ≡ v % 128)
  unfolding sent_bits is_odd
  sent_odd = (agree (λ x. is_odd (sent_bits true x)) (λ x. true) 256 refl v h, agree (λ x. sent_bits true x % 128) (λ x. x % 128) 256 refl v h)

  -- a received byte's bit 7 is set where the eight bits had an even number of ones, and the others stay
  pub even_flagged : (is_set 7 (received_byte true v) ≡ not (is_odd v)) × (received_byte true v % 128 ≡ v % 128)
  unfolding received_byte is_odd
  even_flagged = (agree (λ x. is_set 7 (received_byte true x)) (λ x. not (is_odd x)) 256 refl v h, agree (λ x. received_byte true x % 128) (λ x. x % 128) 256 refl v h)

  pub heard_as_sent : HeardAs false (λ x. x) v
  unfolding iter more_port port_end heard_end shift_clock sent_end level_of stored started entered sent_bits received_byte is_odd
  heard_as_sent = (
    agree (λ x. (echo false 135 x).asked3) (λ x. false) 256 refl v h,
    agree (λ x. (echo false 136 x).asked3) (λ x. true) 256 refl v h,
    agree (λ x. (echo false 136 x).port.receiver) (λ x. waiting x) 256 refl v h,
  )

  pub heard_with_parity : HeardAs true (λ x. x % 128) v
  unfolding iter more_port port_end heard_end shift_clock sent_end level_of stored started entered sent_bits received_byte is_odd
  heard_with_parity = (
    agree (λ x. (echo true 135 x).asked3) (λ x. false) 256 refl v h,
    agree (λ x. (echo true 136 x).asked3) (λ x. true) 256 refl v h,
    agree (λ x. (echo true 136 x).port.receiver) (λ x. waiting (x % 128)) 256 refl v h,
  )

-- a line that is high at the 8th end after the edge was no start bit: nothing is asked for, and the receiver waits again
pub false_start : (parity : Bool) (received : ℕ) → heard_ends parity true 8 (started (waiting received)) ≡ unasked (waiting received)
unfolding iter heard_ends more_heard heard_end shift_clock started
false_start parity received = refl

-- a break: P30 stays low, and a null character is received, once
pub break_heard : (received n : ℕ) → heard_ends false false (n + 136) (started (waiting received)) ≡ record { half = waiting 0; asked = true }
unfolding heard_ends iter more_heard heard_end shift_clock started entered received_byte
break_heard received n = iter_add (more_heard false false) n 136 (unasked (started (waiting received))) ∙ ap (iter n (more_heard false false)) null ∙ iter_fixed (more_heard false false) _ stays n
  where
    null : iter 136 (more_heard false false) (unasked (started (waiting received))) ≡ record { half = waiting 0; asked = true }
    null = refl

    stays : more_heard false false (record { half = waiting 0; asked = true }) ≡ record { half = waiting 0; asked = true }
    stays = refl

-- from a start edge to the 136th end after it, another edge is data
pub edge_in_a_character : (parity : Bool) (received n : ℕ) → n < 136
    → started (heard_ends parity false n (started (waiting received))).half ≡ (heard_ends parity false n (started (waiting received))).half
unfolding iter heard_ends more_heard heard_end shift_clock started entered
edge_in_a_character parity received n h =
    agree (λ k. started (heard_ends parity false k (started (waiting received))).half) (λ k. (heard_ends parity false k (started (waiting received))).half) 136 refl n h
