use mathlib.Core.Path.{◌≡◌, sym}
use Prim.Native.Nat.{ℕ, ◌<◌, ◌≤◌}
use borrow.Author.Tests.{lt-ltb, le-ltb}
use lib.ListN.{set, length}
use lib.Seq.{set_out}
use mathlib.Core.List.{List}
use Rattle.machine.specs.Memory.{data_stored, data_start}
use Rattle.machine.proofs.memory.store_byte.Goals as goal
use Rattle.machine.proofs.memory.store_byte.Goals.{Else-a-data_start}

below : (kind : ℕ) (mem : List ℕ) (a v : ℕ) → a < data_start kind → mem ≡ data_stored kind mem a v
unfolding data_stored
below kind mem a v h = rw (lt-ltb a (data_start kind) h)

within : (kind : ℕ) (mem : List ℕ) (a v : ℕ) → data_start kind ≤ a → set mem a v ≡ data_stored kind mem a v
unfolding data_stored
within kind mem a v h = rw (le-ltb a (data_start kind) h)

past : (kind : ℕ) (mem : List ℕ) (a v : ℕ) → data_start kind ≤ a → length mem ≤ a → mem ≡ data_stored kind mem a v
unfolding data_stored
past kind mem a v h k = rw (le-ltb a (data_start kind) h) (sym (set_out mem a v k))

-- past the first test, the address is one of data memory
from : (s : Else-a-data_start) → data_start s.args.kind ≤ s.args.a
from s = rw s.data_start.ensures at s.if-a-data_start.false

pub returns-then-a-data_start : goal.returns-then-a-data_start
returns-then-a-data_start c = let under : c.args.a < data_start c.args.kind = rw c.data_start.ensures at c.if-a-data_start.true in below _ _ _ _ under

pub returns-then-i-mem : goal.returns-then-i-mem
returns-then-i-mem c =
    within _ _ _ _ (from (goal.at.returns-then-i-mem c).Else-a-data_start)

pub returns-else-i-mem : goal.returns-else-i-mem
returns-else-i-mem c =
    past _ c.args.mem.now _ _ (from (goal.at.returns-else-i-mem c).Else-a-data_start) c.if-i-mem.false
