-- The serial port of a machine: what it reads of the registers, and F0 (02, C-11; 002, R240 and R247; 004, 12.3 and 12.4).
use Rattle.std.specs.Prelude.{ℕ}
use Rattle.word.specs.Choose.{pick}
use Rattle.serial.specs.Transmitter.{stored}
use Rattle.serial.specs.declared.Mode.{Mode}
use Rattle.timers.specs.Control.{mode_of}
use Rattle.machine.specs.Names.{P3M}
use Rattle.machine.specs.State.{held, with_transmitter}
use Rattle.machine.specs.declared.Machine.{Machine}

-- P3M as it stands, and P30 as in the last pins
unfoldable pub port_mode : Machine → Mode
port_mode m = mode_of (held m P3M) m.last3

-- "F0 then reads the received byte and starts a send"; off, it reads FF and drops stores, as in 01
unfoldable pub read_sio : Machine → ℕ
read_sio m = pick (port_mode m).on m.port.receiver.received 0xFF

unfoldable pub write_sio : Machine → ℕ → Machine
write_sio m v = pick (port_mode m).on (with_transmitter m (stored (port_mode m).parity v)) m
