-- R4 to R127, which are what they hold, the holes 80 to EF, and F0.
use mathlib.Core.Path.{◌≡◌, ◌∙◌, sym}
use mathlib.Core.Bool.{true, false, ◌&&◌}
use Prim.Native.Nat.{ℕ, ◌<◌, ◌≤◌}
use native.Mathlib.Omega.{arith}
use borrow.Author.Tests.{le-ltb, le-leb, lt-leb, ne_eqb}
use lib.Dec.{T, eqb, leb, ltb, leb→le, ltb→lt}
use Rattle.word.proofs.Computed.{and_left, and_right}
use Rattle.machine.specs.State.{held, placed}
use Rattle.machine.specs.Registers.{read_hole, write_hole, read_reg, write_reg}
use Rattle.machine.specs.declared.Machine.{Machine}
use Rattle.machine.specs.declared.Pins.{Pins}
use Rattle.machine.specs.ForCode.{is_general}

pub hole_reads : (p : Pins) (m : Machine) (a : ℕ) → 0x80 ≤ a → a ≤ 0xF0 → read_hole m a ≡ read_reg p m a
unfolding read_reg
hole_reads p m a h k =
    let low : 0x04 ≤ a = omega arith in
    simp (le-ltb, le-leb)

pub hole_stores : (m : Machine) (a v : ℕ) → 0x80 ≤ a → a ≤ 0xF0 → write_hole m a v ≡ write_reg m a v
unfolding write_reg
hole_stores m a v h k =
    let low : 0x04 ≤ a = omega arith in
    simp (le-ltb, le-leb)

-- all but F0 read FF and drop stores
pub empty_hole : (p : Pins) (m : Machine) (a v : ℕ) → 0x80 ≤ a → a < 0xF0 → (read_reg p m a ≡ 0xFF) × (write_reg m a v ≡ m)
empty_hole p m a v h k =
    let other : eqb a 0xF0 ≡ false = ne_eqb a 0xF0 (omega arith) in
    (sym (hole_reads p m a h (omega arith)) ∙ rw other, sym (hole_stores m a v h (omega arith)) ∙ rw other)

pub general_reads : (p : Pins) (m : Machine) (a : ℕ) → 0x04 ≤ a → a < 0x80 → held m a ≡ read_reg p m a
unfolding read_reg
general_reads p m a h k =
    let n2 : a ≡ 0xF2 → ⊥ = omega arith in
    let n3 : a ≡ 0xF3 → ⊥ = omega arith in
    let n4 : a ≡ 0xF4 → ⊥ = omega arith in
    let nb : a ≡ 0xFB → ⊥ = omega arith in
    let l5 : a < 0xF5 = omega arith in
    simp (le-ltb, lt-leb, ne_eqb)

pub general_stores : (m : Machine) (a v : ℕ) → 0x04 ≤ a → a < 0x80 → placed m a v ≡ write_reg m a v
unfolding write_reg
general_stores m a v h k =
    let n1 : a ≡ 0xF1 → ⊥ = omega arith in
    let na : a ≡ 0xFA → ⊥ = omega arith in
    let nd : a ≡ 0xFD → ⊥ = omega arith in
    simp (le-ltb, lt-leb, ne_eqb)

-- the test for R4 to R127
pub general_range : (a : ℕ) → is_general a ≡ true → (0x04 ≤ a) × (a < 0x80)
general_range a e =
    let t : T (leb 0x04 a && ltb a 0x80) = rw e tt in
    (leb→le 0x04 a (and_left (leb 0x04 a) (ltb a 0x80) t), ltb→lt a 0x80 (and_right (leb 0x04 a) (ltb a 0x80) t))
