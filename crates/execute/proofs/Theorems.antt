-- What the order asks of an instruction beyond the contracts: when it is refused and what then changes, and what it costs.
use Rattle.std.specs.Prelude.{Some, None}
use Rattle.std.proofs.Common.{◌≡◌, ℕ, ◌≤◌, List, ap}
use Rattle.opcodes.specs.Map.{entry_of}
use Rattle.opcodes.specs.Instruction.{defined}
use Rattle.opcodes.specs.declared.Kind.{Kind}
use Rattle.opcodes.proofs.Theorems.{cycles_range}
use Rattle.machine.specs.Memory.{program_byte, stored_in}
use Rattle.machine.specs.declared.Machine.{Machine}
use Rattle.machine.specs.declared.Pins.{Pins}
use Rattle.machine.proofs.Legal.{program_byte_lem}
use Rattle.deeds.specs.Pages.{deed_of, outcome_of}
use Rattle.deeds.proofs.Fits.{AllRead}
use Rattle.execute.specs.Execute.{memory_after, code_at, next_of, refused_of, perform_of, execute_as, execute_of}

module _ (p : Pins) (image mem : List ℕ) (m : Machine) where
  -- "opcode undefined", exactly: then 5, and nothing is changed
  pub undefined_refused : entry_of (program_byte image m.pc) ≡ None → execute_of p image mem m ≡ refused_of m
  unfolding execute_of execute_as code_at
  undefined_refused e = rw e

  pub undefined_stores_nothing : entry_of (program_byte image m.pc) ≡ None → memory_after m mem (execute_of p image mem m) ≡ mem
  unfolding stored_in
  undefined_stores_nothing e = rw (undefined_refused e)

  pub defined_done : {k : Kind} → entry_of (program_byte image m.pc) ≡ Some k → (execute_of p image mem m).refusal ≡ 0
  unfolding execute_of execute_as perform_of code_at
  defined_done e = rw e

  -- an executed instruction costs 6 to 20 cycles: "The longest instruction takes 20."
  pub costs_6_to_20 : {k : Kind} → AllRead image → entry_of (program_byte image m.pc) ≡ Some k
      → (6 ≤ (execute_of p image mem m).cycles) × ((execute_of p image mem m).cycles ≤ 20)
  unfolding execute_of execute_as perform_of code_at
  costs_6_to_20 {k} all e =
      rw e
      (cycles_range (program_byte image m.pc) (outcome_of (next_of m (code_at image m.pc)) (deed_of p image mem (next_of m (code_at image m.pc)) k (code_at image m.pc)))
      (program_byte_lem image m.pc all) (ap defined e))
