-- The transmitter, one end of T0 at a time (004, 12.4; 02, C-11). What its numbers stand for is said at the struct, in src/lib.rt.
use Rattle.std.specs.Prelude.{Bool, true, false, ◌&&◌, ℕ, ◌+◌, ◌-◌, ◌<◌, T, eqb, ltb}
use Rattle.word.specs.Choose.{pick}
use Rattle.word.specs.Fields.{is_set}
use Rattle.serial.specs.Clocked.{unasked}
use Rattle.serial.specs.Parity.{sent_bits}
use Rattle.serial.specs.declared.Transmitter.{Transmitter}
use Rattle.serial.specs.declared.Clocked.{Clocked}

-- "After a hardware reset or after a character has been transmitted, the transmitter is forced to a marking state (output always High) until
-- a character is loaded into the transmitter buffer"
abbrev pub idle : Transmitter
idle = record { bits = 0xFF; place = 0; ends = 0 }

-- A store to SIO, parity being on or not. "This counter is reset when the transmitter buffer is written by an instruction"; "the
-- divide-by-16 counter is re-synchronized and a new start bit is output followed by data" (12.4.2). "The user is not protected from
-- overwriting the transmitter" (12.4.1): what was under way doesn't matter.
unfoldable pub stored : Bool → ℕ → Transmitter
stored parity v = record { bits = sent_bits parity v; place = 1; ends = 0 }

-- The level on P37, true for High: the marking state; "a start bit", which is Low; "the character written to the buffer", the lowest bit
-- first (C-11); "two stop bits".
unfoldable pub level_of : Transmitter → Bool
level_of t =
    pick (eqb t.place 0) true
    (pick (eqb t.place 1) false
    (pick (ltb t.place 10) (is_set (t.place - 2) t.bits) true))

-- One end of T0, and whether request 4 comes with it. "T_0's output drives a divide-by-16 counter which in turn generates a shift clock
-- every 16 counts. [..] The transmitter then outputs one bit per shift clock, through Port 3 pin P37, until a start bit, the character
-- written to the buffer, and two stop bits have been transmitted. After the second stop bit has been transmitted, the output is again
-- forced to a marking state. Interrupt request IRQ_4 is generated".
unfoldable pub sent_end : Transmitter → Clocked Transmitter
sent_end t =
    pick (eqb t.place 0) (unasked t)
    (pick (ltb (t.ends + 1) 16) (unasked (record { bits = t.bits; place = t.place; ends = t.ends + 1 }))
    (pick (ltb t.place 11) (unasked (record { bits = t.bits; place = t.place + 1; ends = 0 }))
    (record { half = idle; asked = true })))

-- which numbers are a transmitter's: the saved machine's bytes 272 to 274
unfoldable pub transmitter_fits : Transmitter → Bool
transmitter_fits t = pick (eqb t.place 0) (eqb t.bits 0xFF && eqb t.ends 0) (ltb t.place 12 && ltb t.ends 16)

-- the same for laws; in code the types say what is a byte
pub record LegalTransmitter (t : Transmitter) : Type 0 where
  pub bits_byte : t.bits < 256
  pub fits : T (transmitter_fits t)
