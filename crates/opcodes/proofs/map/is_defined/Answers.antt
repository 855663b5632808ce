use native.Mathlib.Omega.{arith}
use mathlib.Core.Path.{refl}
use mathlib.Core.Bool.{true, not, ◌&&◌, ◌||◌}
use lib.Dec.{eqb, ltb, leb}
use Rattle.opcodes.specs.Map.{entry_of, opcode_map}
use Rattle.opcodes.specs.Instruction.{defined}
use Rattle.opcodes.proofs.Cells.{in_part}
use Rattle.opcodes.proofs.map.is_defined.Goals as goal

pub returns-in-12 : goal.returns-in-12
unfolding entry_of opcode_map
returns-in-12 c = rw c.lower-lo.ensures (in_part (λ hi lo. ltb lo 4 || leb 7 lo) (λ op. defined (entry_of op)) 12 1 0 16 c.args.op (omega arith) (omega arith) refl)

pub returns-in-13 : goal.returns-in-13
unfolding entry_of opcode_map
returns-in-13 c = rw c.lower-lo.ensures (in_part (λ hi lo. not (eqb lo 5)) (λ op. defined (entry_of op)) 13 1 0 16 c.args.op (omega arith) (omega arith) refl)

pub returns-in-14 : goal.returns-in-14
unfolding entry_of opcode_map
returns-in-14 c = rw c.lower-lo.ensures (in_part (λ hi lo. not (eqb lo 2)) (λ op. defined (entry_of op)) 14 1 0 16 c.args.op (omega arith) (omega arith) refl)

pub returns-in-0-to-7 : goal.returns-in-0-to-7
unfolding entry_of opcode_map
returns-in-0-to-7 c = rw c.lower-lo.ensures (in_part (λ hi lo. not (eqb lo 15)) (λ op. defined (entry_of op)) 0 8 0 16 c.args.op (omega arith) (omega arith) refl)

pub returns-in-8-to-9 : goal.returns-in-8-to-9
unfolding entry_of opcode_map
returns-in-8-to-9 c = rw c.lower-lo.ensures (in_part (λ hi lo. ltb lo 4 || leb 8 lo) (λ op. defined (entry_of op)) 8 2 0 16 c.args.op (omega arith) (omega arith) refl)

pub returns-in-10-to-11 : goal.returns-in-10-to-11
unfolding entry_of opcode_map
returns-in-10-to-11 c = in_part (λ hi lo. true) (λ op. defined (entry_of op)) 10 2 0 16 c.args.op (omega arith) (omega arith) refl

pub returns-in-15-to-255 : goal.returns-in-15-to-255
unfolding entry_of opcode_map
returns-in-15-to-255 c =
    rw c.lower-lo.ensures
    (in_part (λ hi lo. not (eqb lo 2) && not (eqb lo 4) && not (eqb lo 6) && not (eqb lo 7)) (λ op. defined (entry_of op)) 15 1 0 16 c.args.op (omega arith) (omega arith) refl)
