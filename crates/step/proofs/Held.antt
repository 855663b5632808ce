-- EI alone releases IRQ, and no step holds it again (02, C-13; 004, 10.4.3: "until an EI instruction is executed").
use mathlib.Core.Path.{◌≡◌, ◌∙◌}
use mathlib.Core.Bool.{◌||◌}
use mathlib.Core.List.{List}
use Prim.Native.Nat.{ℕ}
use lib.Dec.{eqb}
use Rattle.machine.specs.Memory.{program_byte}
use Rattle.machine.specs.Legal.{Legal}
use Rattle.machine.specs.declared.Machine.{Machine}
use Rattle.machine.specs.declared.Pins.{Pins}
use Rattle.machine.proofs.Legal.{LegalPins}
use Rattle.deeds.proofs.Fits.{AllRead}
use Rattle.interrupts.specs.Edges.{compared_of}
use Rattle.interrupts.specs.Grants.{grant_of}
use Rattle.std.specs.Prelude.{Option, Some, None}
use Rattle.interrupts.proofs.Held.{compare_releases_none, entry_releases_none}
use Rattle.execute.proofs.Leaves.{ei_alone_releases}
use Rattle.machine.proofs.HeldSpan.{span_releases_none}
use Rattle.step.specs.Step.{granted_or, clocked_on, step_of}
use Rattle.interrupts.proofs.Legal.{compared_legal}
use Rattle.interrupts.proofs.Steady.{compared_leaves}
use Rattle.step.proofs.Good.{granted_sound}
use Rattle.step.proofs.Acts.{done_on, action_taken}

module _ (p : Pins) (image mem : List ℕ) (m : Machine) (l : Legal m) (lp : LegalPins p) (li : AllRead image) (lm : AllRead mem) where
  abbrev compared : Machine
  compared = (compared_of m p.port3).machine

  compared_fits : Legal compared
  compared_fits = compared_legal p.port3 l lp.port3_byte

  -- the clock releases nothing, so a step that is not refused leaves what its instruction or its grant does
  step_as_done : (step_of p image mem m).refusal ≡ 0 → (step_of p image mem m).machine.released ≡ (done_on p image mem compared).machine.released
  unfolding step_of clocked_on
  step_as_done taken =
      let x = done_on p image mem compared in
      let sound = granted_sound p image mem compared (grant_of compared) compared_fits lp li lm in
      rw (action_taken p image mem m taken) (span_releases_none x.machine sound.legal x.cycles)

  -- an executed instruction: exactly where it is EI, opcode 9F, or IRQ was released before
  pub step_releases_by_ei : grant_of compared ≡ None → (step_of p image mem m).refusal ≡ 0
      → (step_of p image mem m).machine.released ≡ eqb (program_byte image m.pc) 0x9F || m.released
  unfolding granted_or
  step_releases_by_ei g taken =
      let left = compared_leaves m p.port3 l.file.long (l.file.bytes 0xF1) in
      let executed : (done_on p image mem compared).machine.released ≡ eqb (program_byte image compared.pc) 0x9F || compared.released =
      rw g (ei_alone_releases p image mem compared li) in
      step_as_done taken ∙ executed ∙ rw (left.pc_left, compare_releases_none m p.port3)

  -- a grant: never
  pub grant_releases_none : {n : ℕ} → grant_of compared ≡ Some n → (step_of p image mem m).refusal ≡ 0
      → (step_of p image mem m).machine.released ≡ m.released
  unfolding granted_or
  grant_releases_none {n} g taken =
      let entered : (done_on p image mem compared).machine.released ≡ compared.released = rw g (entry_releases_none compared image n) in
      step_as_done taken ∙ entered ∙ compare_releases_none m p.port3
