-- What the timers and the serial port read and move of a machine, and the machine's own cycles (01 "The timers"; 02, C-11).
use Rattle.std.specs.Prelude.{Bool, ℕ}
use Rattle.std.specs.Int.Bits.{bit_and, bit_or}
use Rattle.word.specs.Iter.{iter}
use Rattle.timers.specs.Control.{setting_of, enable0, enable1, kept}
use Rattle.timers.specs.Clock.{cycle, written}
use Rattle.timers.specs.declared.Control.{Control}
use Rattle.timers.specs.declared.Timer.{Timer}
use Rattle.timers.specs.declared.Moving.{Moving}
use Rattle.timers.specs.declared.Spanned.{Spanned}
use Rattle.machine.specs.Names.{TMR, T1, PRE1, T0, PRE0, P3M, IRQ}
use Rattle.word.specs.Choose.{bits_if}
use Rattle.machine.specs.State.{whole, core_of, held, placed, with_released, with_port}
use Rattle.machine.specs.declared.Machine.{Machine}
use Rattle.machine.specs.State.{Core}

-- what they read, with this byte for TMR: F2 to F5 hold start values and prescaler fields; "P31 is as in the last pins", and so is P30
unfoldable pub control_with : Machine → ℕ → Control
control_with m tmr =
    record { tmr = tmr; t1 = held m T1; pre1 = held m PRE1; t0 = held m T0; pre0 = held m PRE0; p3m = held m P3M; port3 = m.last3 }

unfoldable pub control_of : Machine → Control
control_of m = control_with m (held m TMR)

-- what cycles move: the divider, the counts in progress with the enable bits that stand in TMR, the request register, T_OUT, the serial
-- port
unfoldable pub moving_of : Machine → Moving
moving_of m =
    record {
      divider = m.divider;
      t0 = record { timer = m.t0; enabled = enable0 (held m TMR) };
      t1 = record { timer = m.t1; enabled = enable1 (held m TMR) };
      lines = record { requests = record { irq = held m IRQ; released = m.released }; tout = m.tout; port = m.port };
    }

-- TMR with these enable bits, 1 for T0 and 3 for T1
unfoldable pub enabling : ℕ → Bool → Bool → ℕ
enabling tmr on0 on1 = bit_or (bit_and tmr 0xF5) (bit_or (bits_if on0 0x02) (bits_if on1 0x08))

-- the rest of a machine, and a machine, with other counts: divider, both timers, T_OUT
abbrev pub counting_at : Core → ℕ → Timer → Timer → Bool → Core
counting_at k divider t0 t1 tout =
    record {
      pc = k.pc;
      divider = divider;
      t0 = t0;
      t1 = t1;
      last3 = k.last3;
      tout = tout;
      kind = k.kind;
      cost = k.cost;
      released = k.released;
      port = k.port;
    }

abbrev pub core_at : Core → Moving → Core
core_at k x = counting_at k x.divider x.t0.timer x.t1.timer x.lines.tout

unfoldable pub counts_at : Machine → Moving → Machine
counts_at m x = whole m.regs (core_at (core_of m) x)

-- the machine with all that cycles move as given: the counts, the serial port, the enable bits in TMR, and the request register, which is
-- IRQ and the mark of an EI. (No cycle and no edge changes the mark: `span_releases_none`, `compare_releases_none`.)
unfoldable pub moved_to : Machine → Moving → Machine
moved_to m x =
    let r = x.lines.requests in
    let k = with_released (with_port (counts_at m x) x.lines.port) r.released in
    placed (placed k TMR (enabling (held m TMR) x.t0.enabled x.t1.enabled)) IRQ r.irq

-- a write to TMR: "Writing a load bit copies P and N, sets T_OUT to 1 if the byte written chooses that timer, and reads back 0. The
-- divider isn't touched."
unfoldable pub write_tmr : Machine → ℕ → Machine
write_tmr m v = placed (counts_at m (written (control_with m v) (moving_of m))) TMR (kept v)

-- a machine, and each timer's ends so far
pub record Ran : Type 0 where
  pub machine : Machine
  pub ends0 : ℕ
  pub ends1 : ℕ

-- what cycles move of it, and put back into a machine
unfoldable pub seen : Ran → Spanned
seen r = record { moving = moving_of r.machine; ends0 = r.ends0; ends1 = r.ends1 }

unfoldable pub shown : Machine → Spanned → Ran
shown m x = record { machine = moved_to m x.moving; ends0 = x.ends0; ends1 = x.ends1 }

-- one cycle of a machine
unfoldable pub cycle_of : Ran → Ran
cycle_of r = shown r.machine (cycle (setting_of (control_of r.machine)) (seen r))

-- n cycles, one by one: "A span is any count from 0 to 4,294,967,295. It compares no pins; P31 is as in the last pins."
unfoldable pub span_of : ℕ → Machine → Ran
span_of n m = iter n cycle_of (record { machine = m; ends0 = 0; ends1 = 0 })
