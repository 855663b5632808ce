-- A machine as 276 bytes, and which bytes are a machine (01 "Numbers the encoder sees"; 02, C-11 and C-13).
use Rattle.std.specs.Prelude.{Bool, true, ◌&&◌, ◌||◌, List, [], ◌∷◌, ◌++◌, ℕ, zero, suc, ◌+◌, eqb, leb, get_or, length, take}
use Rattle.numbers.specs.Numbers.{refused_machine, refused_length, file_length, saved_length}
use Rattle.word.specs.Choose.{pick, one_if}
use Rattle.word.specs.Fields.{bit_of, is_set, lower, word_of, high_byte, low_byte}
use Rattle.serial.specs.Receiver.{receiver_fits}
use Rattle.serial.specs.Transmitter.{transmitter_fits}
use Rattle.serial.specs.declared.Port.{Port}
use Rattle.timers.specs.Control.{or_highest}
use Rattle.timers.specs.declared.Timer.{Timer}
use Rattle.machine.specs.Names.{TMR, IRQ, RP}
use Rattle.machine.specs.Start.{is_kind, is_cost}
use Rattle.machine.specs.declared.Machine.{Machine}

-- byte i of a saved machine
abbrev pub byte : List ℕ → ℕ → ℕ
byte s i = get_or s i 0

-- "A counter of 256 is saved as 0."
unfoldable pub timer_of : ℕ → ℕ → Timer
timer_of prescaler counter = record { prescaler = prescaler; counter = or_highest 256 counter }

-- "The saved machine grows by the port's state" (02, C-11): 268 the received byte; 269 the receiver's shift register; 270 what the receiver
-- waits for; 271 T0's ends since its last shift clock, or since the start edge; 272 the transmitter's eight bits; 273 what is on P37; 274 T0's
-- ends since this bit began
unfoldable pub port_of : List ℕ → Port
port_of s =
    record {
      receiver = record { received = byte s 268; shift = byte s 269; awaited = byte s 270; ends = byte s 271 };
      transmitter = record { bits = byte s 272; place = byte s 273; ends = byte s 274 };
    }

-- "0 to 255 the register file in address order; 256 and 257 the program counter, high byte first; 258 the divider; 259 and 260 T0's
-- prescaler and counter; 261 and 262 T1's; 263 the last Port 3 pins; 264 the T_OUT level; 265 the type (1 or 11); 266 the interrupt
-- entry cost; 267" in its bit 0 whether an EI has been executed (02, C-13). And the serial port, with 275 zero.
unfoldable pub machine_of : List ℕ → Machine
machine_of s =
    record {
      regs = take file_length s;
      pc = word_of (byte s 256) (byte s 257);
      divider = byte s 258;
      t0 = timer_of (byte s 259) (byte s 260);
      t1 = timer_of (byte s 261) (byte s 262);
      last3 = byte s 263;
      tout = eqb (byte s 264) 1;
      kind = byte s 265;
      cost = byte s 266;
      released = is_set 0 (byte s 267);
      port = port_of s;
    }

-- the same the other way, the low byte of each number: of a legal machine the number itself, but 0 for a counter of 256
unfoldable pub rest_of : Machine → List ℕ
rest_of m =
    high_byte m.pc
    ∷ low_byte m.pc
    ∷ low_byte m.divider
    ∷ low_byte m.t0.prescaler
    ∷ low_byte m.t0.counter
    ∷ low_byte m.t1.prescaler
    ∷ low_byte m.t1.counter
    ∷ m.last3
    ∷ one_if m.tout
    ∷ m.kind
    ∷ m.cost
    ∷ one_if m.released
    ∷ m.port.receiver.received
    ∷ m.port.receiver.shift
    ∷ m.port.receiver.awaited
    ∷ m.port.receiver.ends
    ∷ m.port.transmitter.bits
    ∷ m.port.transmitter.place
    ∷ m.port.transmitter.ends
    ∷ 0
    ∷ []

unfoldable pub saved_of : Machine → List ℕ
saved_of m = m.regs ++ rest_of m

-- "Legal: divider 0 to 3; prescalers 1 to 64;"
unfoldable pub counts_fit : ℕ → ℕ → ℕ → Bool
counts_fit divider prescaler0 prescaler1 = leb divider 3 && leb 1 prescaler0 && leb prescaler0 64 && leb 1 prescaler1 && leb prescaler1 64

-- "entry cost 6 to 63; T_OUT 0 or 1; type 1 or 11;"
unfoldable pub own_fit : ℕ → ℕ → ℕ → Bool
own_fit cost tout kind = is_cost cost && leb tout 1 && is_kind kind

-- byte 267: "whether EI has been executed, in bit 0", and the other bits zero; "a legal machine that hasn't has IRQ zero" (02, C-13)
unfoldable pub mark_fits : ℕ → ℕ → Bool
mark_fits bits irq = leb bits 1 && (is_set 0 bits || eqb irq 0)

-- "places 80 to EF and F0 (hexadecimal) zero;" (113 places from 80)
abbrev pub zeros : List ℕ → ℕ → ℕ → Bool
zeros s i zero = true
zeros s i (suc n) = eqb (byte s i) 0 && zeros s (i + 1) n

unfoldable pub holes_empty : List ℕ → Bool
holes_empty s = zeros s 0x80 113

-- "bits 0 and 2 of TMR, 6 and 7 of IRQ, and 0 to 3 of RP zero."
unfoldable pub bits_clear : ℕ → ℕ → ℕ → Bool
bits_clear tmr irq rp = eqb (bit_of 0 tmr) 0 && eqb (bit_of 2 tmr) 0 && eqb (bit_of 6 irq) 0 && eqb (bit_of 7 irq) 0 && eqb (lower rp) 0

-- the serial port's bytes within what `receiver_fits` and `transmitter_fits` say, and byte 275 zero
unfoldable pub port_fits : Port → ℕ → Bool
port_fits p spare = receiver_fits p.receiver && transmitter_fits p.transmitter && eqb spare 0

unfoldable pub legal_of : List ℕ → Bool
legal_of s =
    counts_fit (byte s 258) (byte s 259) (byte s 261)
    && own_fit (byte s 266) (byte s 264) (byte s 265)
    && mark_fits (byte s 267) (byte s IRQ)
    && holes_empty s
    && bits_clear (byte s TMR) (byte s IRQ) (byte s RP)
    && port_fits (port_of s) (byte s 275)

-- "The first that applies, tested in the order 7, 6, 1, 2, 3, 4, 5, 8, among those that the call can meet." Whoever refuses lists its tests
-- in this order; a test that doesn't apply is 0.
abbrev pub first_of : List ℕ → ℕ
first_of [] = 0
first_of (n ∷ ns) = pick (eqb n 0) (first_of ns) n

-- "saved machine not 268 bytes", 276 since 02, C-11
abbrev pub length_refusal : List ℕ → ℕ
length_refusal s = pick (eqb (length s) saved_length) 0 refused_length

-- "saved machine not legal"
abbrev pub legal_refusal : List ℕ → ℕ
legal_refusal s = pick (legal_of s) 0 refused_machine

unfoldable pub refusal_of : List ℕ → ℕ
refusal_of s = first_of (length_refusal s ∷ legal_refusal s ∷ [])
