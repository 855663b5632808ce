-- The receiver, one end of T0 at a time (004, 12.3.1; 02, C-11). What its numbers stand for is said at the struct, in src/lib.rt.
use Rattle.std.specs.Prelude.{Bool, true, ◌&&◌, ℕ, ◌+◌, ◌/◌, ◌<◌, T, eqb, ltb}
use Rattle.word.specs.Choose.{pick, bits_if}
use Rattle.serial.specs.Clocked.{unasked}
use Rattle.serial.specs.Parity.{received_byte}
use Rattle.serial.specs.declared.Receiver.{Receiver}
use Rattle.serial.specs.declared.Clocked.{Clocked}

-- "After a hardware reset or after a character has been received, the Receiver Shift register is initialized to all 1s and the shift clock is
-- stopped." The byte received last stays until the next one: "it is not protected from being overwritten" (12.3.2).
abbrev pub waiting : ℕ → Receiver
waiting received = record { received = received; shift = 0xFF; awaited = 0; ends = 0 }

-- A falling edge of P30. "The start bit detection circuitry monitors the incoming data stream, looking for a start bit (a High-to-Low input
-- transition). When a start bit is detected, the shift clock logic is enabled." It looks for one again only after the character: an edge
-- before that is data.
unfoldable pub started : Receiver → Receiver
started r = pick (eqb r.awaited 0) (record { received = r.received; shift = r.shift; awaited = 1; ends = 0 }) r

-- "serial-in, parallel-out" (12.3): a bit enters at bit 7 and the others move down, so that of eight the first becomes the lowest
unfoldable pub entered : Bool → ℕ → ℕ
entered high shift = bits_if high 128 + shift / 2

abbrev pub shifted_in : Bool → Receiver → Receiver
shifted_in high r = record { received = r.received; shift = entered high r.shift; awaited = r.awaited + 1; ends = 0 }

-- "After a full character has been assembled in the Shift register, the data is transferred to the receiver's buffer, SIO (%F0), and interrupt
-- request IRQ_3 is generated. The shift clock is stopped and the Shift register reset to all 1s."
abbrev pub to_buffer : Bool → ℕ → Clocked Receiver
to_buffer parity character = record { half = waiting (received_byte parity character); asked = true }

-- The shift clock, P30 being high or not. "This clock shifts the start bit into the Receiver Shift register at the center of the bit time.
-- Before the shift actually occurs, the input is rechecked to ensure that the start bit is valid. If the detected start bit is false, the
-- receiver is reset and the process of looking for a start bit is repeated. If the start bit is valid, the data is shifted into the Shift
-- register [..] until a full character is assembled", that is with data bit 7, which 9 stands for.
unfoldable pub shift_clock : Bool → Bool → Receiver → Clocked Receiver
shift_clock parity high r =
    pick (eqb r.awaited 1 && high) (unasked (waiting r.received))
    (pick (ltb r.awaited 9) (unasked (shifted_in high r)) (to_buffer parity (entered high r.shift)))

-- "The T_0 input is divided by 16 and, when the count equals 8, the divider outputs a shift clock", and then "every sixteen counts": from the
-- start edge to the middle of the start bit, and from middle to middle.
abbrev pub shifts_at : ℕ → ℕ
shifts_at awaited = pick (eqb awaited 1) 8 16

-- one end of T0, and whether request 3 comes with it
unfoldable pub heard_end : Bool → Bool → Receiver → Clocked Receiver
heard_end parity high r =
    pick (eqb r.awaited 0) (unasked r)
    (pick (ltb (r.ends + 1) (shifts_at r.awaited))
    (unasked (record { received = r.received; shift = r.shift; awaited = r.awaited; ends = r.ends + 1 }))
    (shift_clock parity high r))

-- which numbers are a receiver's: the saved machine's bytes 268 to 271
unfoldable pub receiver_fits : Receiver → Bool
receiver_fits r =
    pick (eqb r.awaited 0) (eqb r.shift 0xFF && eqb r.ends 0)
    (pick (eqb r.awaited 1) (eqb r.shift 0xFF && ltb r.ends 8) (ltb r.awaited 10 && ltb r.ends 16))

-- the same for laws; in code the types say what is a byte
pub record LegalReceiver (r : Receiver) : Type 0 where
  pub received_byte_lem : r.received < 256
  pub shift_byte : r.shift < 256
  pub fits : T (receiver_fits r)
