use native.Mathlib.Omega.{arith}
use mathlib.Core.Path.{◌≡◌}
use Prim.Native.Nat.{◌+◌, ◌<◌}
use lib.ListN.{length}
use Rattle.word.specs.Words.{plus}
use Rattle.machine.specs.Memory.{program_byte}
use Rattle.machine.proofs.Elements.{element}
use Rattle.machine.proofs.memory.program_three.Goals as goal

pub returns-then-i-end : goal.returns-then-i-end
unfolding program_byte
returns-then-i-end c =
    let a = c.args.a in
    let l = c.args.image.now in
    let end = c.reach-end.ensures.inside in
    let within : a + 2 < c.reach-end.result = c.if-i-end.true in
    let inside : a + 2 < length l = omega (arith, within, end.0) in
    let low : a + 2 < 65536 = omega (arith, within, end.1) in
    let one : plus a 1 ≡ a + 1 = omega (arith, low) in
    let two : plus a 2 ≡ a + 2 = omega (arith, low) in
    rw (one, two, element l a 0xFF 0 (omega (arith, inside)), element l (a + 1) 0xFF 0 (omega (arith, inside)), element l (a + 2) 0xFF 0 inside)

pub returns : goal.returns
returns c = rw (c.program-third.ensures, c.plus-2.ensures, c.program-second.ensures, c.plus.ensures, c.program-first.ensures)
