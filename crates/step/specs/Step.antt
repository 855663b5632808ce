-- One step (01 "One step").
use Rattle.std.specs.Prelude.{List, ℕ, ◌+◌, eqb}
use Rattle.word.specs.Choose.{pick}
use Rattle.machine.specs.Clock.{span_of}
use Rattle.machine.specs.Stack.{Stacked}
use Rattle.machine.specs.declared.Machine.{Machine}
use Rattle.machine.specs.declared.Pins.{Pins}
use Rattle.execute.specs.Execute.{Execution, refused_of, memory_after, execute_of}
use Rattle.interrupts.specs.Edges.{Comparison, compared_of}
use Rattle.interrupts.specs.Grants.{grant_of}
use Rattle.interrupts.specs.Entry.{entered_of}
use Rattle.std.specs.Prelude.{Option, Some, None}

-- what a step or a run comes to: 0 or a refusal's number, its cycles, "each timer's ends, edge ends too", the machine, data memory
pub record Progress : Type 0 where
  pub refusal : ℕ
  pub cycles : ℕ
  pub ends0 : ℕ
  pub ends1 : ℕ
  pub machine : Machine
  pub memory : List ℕ

-- "An interrupt grant is a step of the entry cost", whichever the stack is
abbrev pub costing_entry : ℕ → Stacked → Execution
costing_entry cost s = record { refusal = 0; cycles = cost; stores = s.stores; machine = s.machine }

-- "Grant an interrupt, or else execute one instruction." A granted step looks at no opcode.
unfoldable pub granted_or : Pins → List ℕ → List ℕ → Machine → Option ℕ → Execution
granted_or p image mem m None = execute_of p image mem m
granted_or p image mem m (Some n) = costing_entry m.cost (entered_of image m n)

-- what is done on compared pins, and T1's ends by the edges alone
pub record Action : Type 0 where
  pub done : Execution
  pub ends1 : ℕ

-- It is refused exactly where the opcode is undefined and nothing is granted, the requests just latched by edges included. "Nothing changed": m is as
-- before its pins were compared, so IRQ, TMR, T1, T_OUT and the last pins too are as they were.
unfoldable pub act_on : Machine → Comparison → Execution → Action
act_on m c x = pick (eqb x.refusal 0) (record { done = x; ends1 = c.ends1 }) (record { done = refused_of m; ends1 = 0 })

unfoldable pub action_of : Pins → List ℕ → List ℕ → Machine → Action
action_of p image mem m =
    let c = compared_of m p.port3 in
    act_on m c (granted_or p image mem c.machine (grant_of c.machine))

-- "Advance the clock by its cost", by single cycles. What was stored to a timer has acted by then, and P31 is as in the pins given. A
-- refusal costs nothing. (The machine m is asked for its type alone, which nothing changes.)
unfoldable pub clocked_on : Machine → List ℕ → Action → Progress
clocked_on m mem a =
    let x = a.done in
    let r = span_of x.cycles x.machine in
    record {
      refusal = x.refusal;
      cycles = x.cycles;
      ends0 = r.ends0;
      ends1 = a.ends1 + r.ends1;
      machine = r.machine;
      memory = memory_after m mem x;
    }

-- one step
unfoldable pub step_of : Pins → List ℕ → List ℕ → Machine → Progress
step_of p image mem m = clocked_on m mem (action_of p image mem m)
