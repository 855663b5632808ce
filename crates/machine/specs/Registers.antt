-- What a register's address reads, and what a store to it does (01 "Memory and registers"; 004 3.2 and 10.8; 002, R240 to R255).
use Rattle.std.specs.Prelude.{Bool, ◌&&◌, ◌||◌, ℕ, ◌*◌, ◌%◌, eqb, ltb, leb}
use Rattle.std.specs.Int.Bits.{bit_and}
use Rattle.word.specs.Choose.{pick}
use Rattle.word.specs.Fields.{upper, low_byte}
use Rattle.machine.specs.Names.{SIO, TMR, T1, T0, P2M, P01M, IRQ, IMR, RP}
use Rattle.machine.specs.State.{held, placed}
use Rattle.machine.specs.Ports.{directions_of, pins_of, port_reads, port_stores}
use Rattle.machine.specs.Clock.{write_tmr}
use Rattle.machine.specs.Serial.{read_sio, write_sio}
use Rattle.machine.specs.declared.Machine.{Machine}
use Rattle.machine.specs.declared.Pins.{Pins}
use Rattle.machine.specs.declared.ports.Directions.{Directions}

-- "80 to EF and F0 read FF and drop stores (HOUSE)." F0 is the serial port's now, and does so while that is off (02, C-11).
abbrev pub is_hole : ℕ → Bool
is_hole a = leb 0x80 a && leb a 0xF0

abbrev pub read_hole : Machine → ℕ → ℕ
read_hole m a = pick (eqb a SIO) (read_sio m) 0xFF

abbrev pub write_hole : Machine → ℕ → ℕ → Machine
write_hole m a v = pick (eqb a SIO) (write_sio m v) m

-- "F3 and F5 to F9 are write-only (002) and read FF."
abbrev pub is_write_only : ℕ → Bool
is_write_only a = eqb a 0xF3 || (leb 0xF5 a && leb a 0xF9)

-- a port's directions, by P01M and P2M
abbrev pub port_directions : Machine → ℕ → Directions
port_directions m a = directions_of (held m P01M) (held m P2M) a

unfoldable pub read_port : Pins → Machine → ℕ → ℕ
read_port p m a = port_reads (port_directions m a) (pins_of p a) (held m a)

unfoldable pub write_port : Machine → ℕ → ℕ → Machine
write_port m a v = placed m a (port_stores (port_directions m a) (held m a) v)

-- a store to IRQ drops bits 6 and 7 (HOUSE). Until an EI has been executed "stores to FA are dropped" (02, C-13); and as nothing else sets
-- a bit of it then, "it reads 0".
unfoldable pub write_irq : Machine → ℕ → Machine
write_irq m v = pick m.released (placed m IRQ (v % 64)) m

-- what register a reads: "F2 and F4 read the count in progress, 256 as 0." IMR's bit 6 "is not implemented, though reading this bit
-- returns 0" (004, 10.8).
unfoldable pub read_reg : Pins → Machine → ℕ → ℕ
read_reg p m a =
    pick (ltb a 0x04) (read_port p m a)
    (pick (is_hole a) (read_hole m a)
    (pick (is_write_only a) 0xFF
    (pick (eqb a T1) (low_byte m.t1.counter)
    (pick (eqb a T0) (low_byte m.t0.counter)
    (pick (eqb a IMR) (bit_and (held m a) 0xBF)
    (held m a))))))

-- a store of v to register a: a hole drops it, SIO (F0) sends it while the serial port is on, TMR (F1) acts on its load bits, IRQ (FA)
-- takes it once an EI has been executed, and RP (FD) drops its low nibble, which "always reads 0 (HOUSE)". All others hold what is stored: "F2
-- and F4 hold start values".
unfoldable pub write_reg : Machine → ℕ → ℕ → Machine
write_reg m a v =
    pick (ltb a 0x04) (write_port m a v)
    (pick (is_hole a) (write_hole m a v)
    (pick (eqb a TMR) (write_tmr m v)
    (pick (eqb a IRQ) (write_irq m v)
    (pick (eqb a RP) (placed m a (upper v * 16))
    (placed m a v)))))
