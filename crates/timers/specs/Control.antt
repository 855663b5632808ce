-- What the control registers F1 to F5 and P31 tell the timers (01 "The timers"; 002, R241 to R245), and P3M and P30 the serial port (002,
-- R247).
use Rattle.std.specs.Prelude.{Bool, true, false, not, ◌&&◌, ◌||◌, ℕ, ◌/◌, ◌%◌, ◌<◌, eqb}
use Rattle.std.specs.Int.Bits.{bit_and}
use Rattle.word.specs.Choose.{pick}
use Rattle.word.specs.Fields.{is_set}
use Rattle.serial.specs.declared.Mode.{Mode}
use Rattle.timers.specs.declared.Control.{Control}
use Rattle.timers.specs.declared.Setup.{Setup}
use Rattle.timers.specs.declared.Setting.{Setting}

-- a count whose field 0 stands for the highest: "Prescaler P is 1 to 64 (field 0 is 64), count N is 1 to 256 (byte 0 is 256)"
unfoldable pub or_highest : ℕ → ℕ → ℕ
or_highest top field = pick (eqb field 0) top field

-- P is in bits 7 to 2 of PRE0 or PRE1; bit 0 set is modulo-N, which is repeating, and clear is single-pass. N is the start byte.
unfoldable pub setup_of : ℕ → ℕ → Bool → Bool → ℕ → Bool → Setup
setup_of pre start divider edges request drives =
    record {
      p = or_highest 64 (pre / 4);
      n = or_highest 256 start;
      repeats = is_set 0 pre;
      divider = divider;
      edges = edges;
      request = request;
      drives = drives;
    }

-- TMR's bits 0 to 3: load T0, enable T0 count, load T1, enable T1 count
abbrev pub load0 : ℕ → Bool
load0 tmr = is_set 0 tmr

abbrev pub enable0 : ℕ → Bool
enable0 tmr = is_set 1 tmr

abbrev pub load1 : ℕ → Bool
load1 tmr = is_set 2 tmr

abbrev pub enable1 : ℕ → Bool
enable1 tmr = is_set 3 tmr

-- TMR bits 7 and 6, the T_OUT modes, and bits 5 and 4, the T_IN modes
abbrev pub tout_mode : ℕ → ℕ
tout_mode tmr = tmr / 64

abbrev pub tin_mode : ℕ → ℕ
tin_mode tmr = tmr / 16 % 4

-- PRE1 bit 1: T1's clock source is internal. And P31, bit 1 of Port 3, is high.
abbrev pub internal : ℕ → Bool
internal pre1 = is_set 1 pre1

abbrev pub p31 : ℕ → Bool
p31 port3 = is_set 1 port3

-- "T1 with PRE1 bit 1 set ticks internally; clear, TMR bits 5 and 4 choose: 00 falling edges of P31, 01 ticks while P31 is high, 10
-- and 11 no ticks yet."
unfoldable pub divider_moves_t1 : Bool → ℕ → Bool → Bool
divider_moves_t1 internal mode high = internal || (eqb mode 1 && high)

unfoldable pub edges_move_t1 : Bool → ℕ → Bool
edges_move_t1 internal mode = not internal && eqb mode 0

-- P3M bit 6: the serial port is "active"; bit 7: parity (02, C-11; 002). And P30, bit 0 of Port 3, which the receiver looks at.
unfoldable pub mode_of : ℕ → ℕ → Mode
mode_of p3m port3 = record { on = is_set 6 p3m; parity = is_set 7 p3m; high = is_set 0 port3 }

-- "T0's end latches request 4, T1's request 5. The end of the timer chosen by TMR bits 7 and 6 (01 T0, 10 T1, else none) flips T_OUT."
-- T0 "is driven by the internal clock only" (002). "P31 is as in the last pins." Of F2 to F5 a timer sees no more than this, and sees it at a
-- tick or a load: "Writing F2 to F5 alone moves no count."
unfoldable pub setting_of : Control → Setting
setting_of c =
    let mode = tin_mode c.tmr in
    record {
      t0 = setup_of c.pre0 c.t0 true false 4 (eqb (tout_mode c.tmr) 1);
      t1 =
          setup_of
          c.pre1
          c.t1
          (divider_moves_t1 (internal c.pre1) mode (p31 c.port3))
          (edges_move_t1 (internal c.pre1) mode)
          5
          (eqb (tout_mode c.tmr) 2);
      port = mode_of c.p3m c.port3;
    }

-- what a byte written to TMR leaves there: load bits 0 and 2 read back 0
unfoldable pub kept : ℕ → ℕ
kept v = bit_and v 0xFA

-- for the laws: the registers hold bytes
pub record ControlBytes (c : Control) : Type 0 where
  pub t1_byte : c.t1 < 256
  pub pre1_byte : c.pre1 < 256
  pub t0_byte : c.t0 < 256
  pub pre0_byte : c.pre0 < 256
