-- F0, while the serial port is on and while it is off. Only these laws open `read_sio` and `write_sio`.
use mathlib.Core.Path.{◌≡◌}
use mathlib.Core.Bool.{true, false}
use Prim.Native.Nat.{ℕ, ◌<◌}
use lib.Dec.{lit<}
use Rattle.word.proofs.Computed.{by_test}
use Rattle.serial.specs.Transmitter.{stored}
use Rattle.machine.specs.Names.{SIO}
use Rattle.machine.specs.State.{with_transmitter}
use Rattle.machine.specs.Serial.{port_mode, read_sio, write_sio}
use Rattle.machine.specs.Registers.{read_reg, write_reg}
use Rattle.machine.specs.declared.Machine.{Machine}
use Rattle.machine.specs.declared.Pins.{Pins}

-- on: it reads the byte received last, and a store begins a send, whatever was under way, and moves nothing else
pub sio_sends : (m : Machine) (v : ℕ) → (port_mode m).on ≡ true → write_reg m SIO v ≡ with_transmitter m (stored (port_mode m).parity v)
unfolding write_reg write_sio
sio_sends m v on = rw on

pub sio_reads : (p : Pins) (m : Machine) → (port_mode m).on ≡ true → read_reg p m SIO ≡ m.port.receiver.received
unfolding read_reg read_sio
sio_reads p m on = rw on

-- off: it reads FF and drops stores
pub sio_off : (p : Pins) (m : Machine) (v : ℕ) → (port_mode m).on ≡ false → (read_reg p m SIO ≡ 0xFF) × (write_reg m SIO v ≡ m)
unfolding read_reg read_sio write_reg write_sio
sio_off p m v off = (rw off, rw off)

-- so what holds of a send begun and of the machine itself holds of the machine after a store to F0; and what it reads is a byte
pub sio_either : (m : Machine) (v : ℕ) (P : Machine → Type 0) → P (with_transmitter m (stored (port_mode m).parity v)) → P m → P (write_sio m v)
unfolding write_sio
sio_either m v P sends drops = by_test P (port_mode m).on (λ on. sends) (λ off. drops)

pub sio_byte : (m : Machine) → m.port.receiver.received < 256 → read_sio m < 256
unfolding read_sio
sio_byte m h = by_test (λ (v : ℕ). v < 256) (port_mode m).on (λ on. h) (λ off. lit< tt)
