-- The machine, and the places of its register file (01 "Numbers the encoder sees"). Of a `Machine`, `regs` is the register file, `pc` the
-- program counter, `divider` the divider, `t0` and `t1` the counts in progress, `last3` the last Port 3 pins, `tout` the T_OUT level, `kind`
-- the type, 1 or 11, `cost` the interrupt entry cost, `released` whether an EI has been executed since the last reset (02, C-13), and `port`
-- the serial port (02, C-11). A `Core` is the same without the file; below it is called the machine's rest.
use Rattle.std.specs.Prelude.{Bool, List, ℕ, get_or, set}
use Rattle.serial.specs.declared.Transmitter.{Transmitter}
use Rattle.serial.specs.declared.Port.{Port}
use Rattle.timers.specs.declared.Timer.{Timer}
use Rattle.machine.specs.declared.Machine.{Machine}

-- a machine but for its register file
pub record Core : Type 0 where
  pub pc : ℕ
  pub divider : ℕ
  pub t0 : Timer
  pub t1 : Timer
  pub last3 : ℕ
  pub tout : Bool
  pub kind : ℕ
  pub cost : ℕ
  pub released : Bool
  pub port : Port

-- "The register file is kept as 256 places in address order. Places 0 to 3 hold output latches, F2 and F4 hold start values". What the
-- place of register a holds, and the file with v in it: of a machine, only these two look up a place by its register's address. (`legal_of` of
-- `saved` looks at bytes before there is a machine.)
unfoldable pub held_in : List ℕ → ℕ → ℕ
held_in file a = get_or file a 0

unfoldable pub placed_in : List ℕ → ℕ → ℕ → List ℕ
placed_in file a v = set file a v

-- a machine of its file and the rest, and the rest of a machine
abbrev pub whole : List ℕ → Core → Machine
whole file k =
    record {
      regs = file;
      pc = k.pc;
      divider = k.divider;
      t0 = k.t0;
      t1 = k.t1;
      last3 = k.last3;
      tout = k.tout;
      kind = k.kind;
      cost = k.cost;
      released = k.released;
      port = k.port;
    }

abbrev pub core_of : Machine → Core
core_of m =
    record {
      pc = m.pc;
      divider = m.divider;
      t0 = m.t0;
      t1 = m.t1;
      last3 = m.last3;
      tout = m.tout;
      kind = m.kind;
      cost = m.cost;
      released = m.released;
      port = m.port;
    }

-- what a machine's place holds, and the machine with v there and all else as it was
abbrev pub held : Machine → ℕ → ℕ
held m a = held_in m.regs a

unfoldable pub placed : Machine → ℕ → ℕ → Machine
placed m a v = whole (placed_in m.regs a v) (core_of m)

-- the rest of a machine with this program counter, these last pins, this mark of an EI and this serial port, and all else as it was
abbrev pub core_with : Core → ℕ → ℕ → Bool → Port → Core
core_with k pc last3 released port =
    record {
      pc = pc;
      divider = k.divider;
      t0 = k.t0;
      t1 = k.t1;
      last3 = last3;
      tout = k.tout;
      kind = k.kind;
      cost = k.cost;
      released = released;
      port = port;
    }

-- the rest of a machine, and a machine, at another program counter
abbrev pub at_pc : Core → ℕ → Core
at_pc k pc = core_with k pc k.last3 k.released k.port

unfoldable pub with_pc : Machine → ℕ → Machine
with_pc m pc = whole m.regs (at_pc (core_of m) pc)

-- the same with other last pins of Port 3
abbrev pub at_last3 : Core → ℕ → Core
at_last3 k port3 = core_with k k.pc port3 k.released k.port

unfoldable pub with_last3 : Machine → ℕ → Machine
with_last3 m port3 = whole m.regs (at_last3 (core_of m) port3)

-- with IRQ released, or held
abbrev pub at_released : Core → Bool → Core
at_released k released = core_with k k.pc k.last3 released k.port

unfoldable pub with_released : Machine → Bool → Machine
with_released m released = whole m.regs (at_released (core_of m) released)

-- with another serial port
abbrev pub at_port : Core → Port → Core
at_port k port = core_with k k.pc k.last3 k.released port

unfoldable pub with_port : Machine → Port → Machine
with_port m port = whole m.regs (at_port (core_of m) port)

-- and with another transmitter alone
unfoldable pub with_transmitter : Machine → Transmitter → Machine
with_transmitter m t = with_port m (record { receiver = m.port.receiver; transmitter = t })
