-- A request entered, from what the push left.
use mathlib.Core.Path.{◌≡◌}
use mathlib.Core.Bool.{false}
use mathlib.Core.List.{List}
use Prim.Native.Nat.{ℕ}
use Rattle.word.specs.Fields.{high_byte, low_byte}
use Rattle.machine.specs.State.{held, placed, with_pc}
use Rattle.machine.specs.Stack.{pushed}
use Rattle.machine.specs.declared.Machine.{Machine}
use Rattle.machine.specs.declared.Bytes.TheVariants.{Three}
use Rattle.machine.specs.ForCode.{Left, left, stacked}
use Rattle.deeds.specs.Modes.{flags_of}
use Rattle.execute.specs.Doing.{interrupts_to}
use Rattle.interrupts.specs.Entry.{cleared, vector_of, acknowledged, entered_of}

pub entered_is : (image mem : List ℕ) (m : Machine) (n : ℕ) (l : Left) → l ≡ stacked m.kind mem (pushed m (Three (flags_of m) (high_byte m.pc) (low_byte m.pc)))
    → left (with_pc (interrupts_to (placed l.machine 0xFA (cleared n (held l.machine 0xFA))) false) (vector_of image n)) l.memory ≡ stacked m.kind mem (entered_of image m n)
unfolding acknowledged entered_of
entered_is image mem m n l e = rw e
