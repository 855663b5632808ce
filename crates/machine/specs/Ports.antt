-- Ports 0 to 3 (01 "Memory and registers"; 004 6.3 and 9.2 to 9.5; 002, R246 and R248).
use Rattle.std.specs.Prelude.{Bool, ℕ, ◌-◌, ◌/◌, ◌%◌, eqb, leb}
use Rattle.std.specs.Int.Bits.{bit_and, bit_or}
use Rattle.word.specs.Choose.{pick, bits_if}
use Rattle.machine.specs.declared.Pins.{Pins}
use Rattle.machine.specs.declared.ports.Directions.{Directions}

-- a mode of Port 0's nibbles and of Port 1, two bits of P01M: 00 output, 01 input, 1X address lines (002). (Port 1's 10 is AD0 to AD7 and
-- its 11 high impedance: "Port 1 in mode 10 or 11 reads FF and drops stores.")
abbrev pub is_input : ℕ → Bool
is_input mode = eqb mode 1

abbrev pub is_address : ℕ → Bool
is_address mode = leb 2 mode

-- Port 0, "nibble [..] mode from P01M": bits 7 and 6 for P04 to P07, bits 1 and 0 for P00 to P03
unfoldable pub port0_directions : ℕ → Directions
port0_directions p01m =
    let high = p01m / 64 in
    let low = p01m % 4 in
    record {
      inputs = bit_or (bits_if (is_input high) 0xF0) (bits_if (is_input low) 0x0F);
      address = bit_or (bits_if (is_address high) 0xF0) (bits_if (is_address low) 0x0F);
    }

-- Port 1, "byte mode from P01M": bits 4 and 3
unfoldable pub port1_directions : ℕ → Directions
port1_directions p01m =
    let mode = p01m / 8 % 4 in
    record { inputs = bits_if (is_input mode) 0xFF; address = bits_if (is_address mode) 0xFF }

-- "A P2M bit that is set means input."
unfoldable pub port2_directions : ℕ → Directions
port2_directions p2m = record { inputs = p2m; address = 0 }

-- "P3 bits 0 to 3 are inputs, 4 to 7 outputs."
unfoldable pub port3_directions : Directions
port3_directions = record { inputs = 0x0F; address = 0 }

-- of what ports 0 to 3 have, that of port n
abbrev pub of_port : {A : Type 0} → ℕ → A → A → A → A → A
of_port n p0 p1 p2 p3 = pick (eqb n 0) p0 (pick (eqb n 1) p1 (pick (eqb n 2) p2 p3))

unfoldable pub directions_of : ℕ → ℕ → ℕ → Directions
directions_of p01m p2m n = of_port n (port0_directions p01m) (port1_directions p01m) (port2_directions p2m) port3_directions

-- the pins of port n, as given with the call
unfoldable pub pins_of : Pins → ℕ → ℕ
pins_of p n = of_port n p.port0 p.port1 p.port2 p.port3

-- the bits of a where the mask has ones, those of b elsewhere
unfoldable pub masked : ℕ → ℕ → ℕ → ℕ
masked mask a b = bit_or (bit_and mask a) (bit_and (255 - mask) b)

-- "an address nibble reads ones"; "An output bit reads its latch, an input bit its pin."
unfoldable pub port_reads : Directions → ℕ → ℕ → ℕ
port_reads d pins latch = masked d.address 0xFF (masked d.inputs pins latch)

-- "an address nibble [..] drops stores"; "Other port stores go to the latch, input bits too (HOUSE)."
unfoldable pub port_stores : Directions → ℕ → ℕ → ℕ
port_stores d latch v = masked d.address latch v
