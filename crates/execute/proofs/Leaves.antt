-- What an instruction leaves: the last pins of Port 3, and, but for EI, whether IRQ is released.
use Rattle.std.proofs.Common.{Option, Some, None, ◌≡◌, ℕ, ◌+◌, ◌%◌, Bool, true, false, ◌||◌, eqb, List, refl, ap, ◌∙◌}
use Rattle.word.specs.Fields.{high_byte, low_byte}
use Rattle.word.specs.Words.{plus}
use Rattle.word.proofs.Computed.{by_test, agree}
use Rattle.opcodes.specs.Map.{entry_of, opcode_map}
use Rattle.opcodes.specs.declared.Kind.{Kind}
use Rattle.opcodes.specs.declared.Kind.TheVariants.{Binary, Test, Unary, Paired, Call, Ccf, Clr, Da, Di, Djnz, Ei, Iret, Jp, Jr, Ld, Ldc, Ldci, Lde, Ldei, Nop, Pop, Push, Rcf, Ret, Scf, Srp}
use Rattle.opcodes.specs.declared.Target.TheVariants.{Direct, Pair}
use Rattle.machine.specs.State.{placed, with_pc, with_released}
use Rattle.machine.specs.Registers.{read_reg, write_reg}
use Rattle.machine.specs.Addresses.{read_pair}
use Rattle.machine.specs.Stack.{raised}
use Rattle.machine.specs.Memory.{program_byte}
use Rattle.machine.specs.declared.Machine.{Machine}
use Rattle.machine.specs.declared.Pins.{Pins}
use Rattle.machine.specs.declared.Bytes.TheVariants.{One, Two}
use Rattle.machine.proofs.Legal.{program_byte_lem}
use Rattle.machine.proofs.Whole.{Keeps, write_keeps, pair_keeps, push_keeps, raise_keeps}
use Rattle.deeds.specs.Pages.{binary_deed, test_deed, unary_deed, paired_deed, adjust_deed, da_deed, ld_deed, clr_deed, ccf_deed, rcf_deed, scf_deed, ldc_deed, lde_deed, ldci_deed, ldei_deed, pop_deed, push_deed, call_deed, ret_deed, iret_deed, jp_deed, jr_deed, djnz_deed, deed_of}
use Rattle.deeds.specs.Modes.{flags_of, one_at}
use Rattle.deeds.specs.declared.Code.{Code}
use Rattle.alu.specs.Decimal.{da_of}
use Rattle.alu.specs.declared.Outcome.{Outcome}
use Rattle.deeds.proofs.Fits.{AllRead}
use Rattle.deeds.specs.declared.Transfer.{Transfer}
use Rattle.deeds.specs.declared.Transfer.TheVariants.{Dropped, ToRegister, ToMemory}
use Rattle.deeds.specs.declared.Deed.{Deed}
use Rattle.deeds.specs.declared.Deed.TheVariants as deed
use Rattle.execute.specs.Doing.{flagged, stored_at, word_stored_at, transferred, counted_up, pair_counted_up, block_moved, popped, returned, interrupts_to, interrupt_returned, interrupts_enabled, called, jumped, looped, done_of}
use Rattle.execute.specs.Execute.{code_at, next_of, perform_of, execute_as, execute_of}

-- n has m's last pins, and is released where m is or where `enabled` says so
pub record Leaves (enabled : Bool) (m n : Machine) : Type 0 where
  pub last3_left : n.last3 ≡ m.last3
  pub released_left : n.released ≡ enabled || m.released

nothing_moved : (m : Machine) → Leaves false m m
nothing_moved m = record { last3_left = refl; released_left = refl }

stores_leave : {m n : Machine} → Keeps m n → Leaves false m n
stores_leave k = record { last3_left = k.last3_kept; released_left = k.released_kept }

leaves_on : {m n o : Machine} → Leaves false m n → Leaves false n o → Leaves false m o
leaves_on f g = record { last3_left = g.last3_left ∙ f.last3_left; released_left = g.released_left ∙ f.released_left }

-- the program counter, FLAGS and IMR are no matter of it
jump_leaves : (m : Machine) (taken : Bool) (to : ℕ) → Leaves false m (jumped m taken to)
unfolding jumped with_pc
jump_leaves m taken to = by_test (Leaves false m) taken (λ t. record { last3_left = refl; released_left = refl }) (λ t. nothing_moved m)

transfer_leaves : (m : Machine) (t : Transfer) → Leaves false m (transferred m t).machine
unfolding transferred
transfer_leaves m Dropped = nothing_moved m
transfer_leaves m (ToRegister a v) = stores_leave (write_keeps m a v)
transfer_leaves m (ToMemory a v) = nothing_moved m

block_leaves : (p : Pins) (m : Machine) (t : Transfer) (r rr : ℕ) → Leaves false m (block_moved p m t r rr).machine
unfolding block_moved counted_up pair_counted_up
block_leaves p m t r rr =
    let n = (transferred m t).machine in
    let o = write_reg n r ((read_reg p n r + 1) % 256) in
    let registers_count = leaves_on (stores_leave (write_keeps n r ((read_reg p n r + 1) % 256))) (stores_leave (pair_keeps o rr (plus (read_pair p o rr) 1))) in
    leaves_on (transfer_leaves m t) registers_count

-- whether a deed is EI's
abbrev enables : Deed → Bool
enables deed.Nothing = false
enables (deed.Move t) = false
enables (deed.Store dst o) = false
enables (deed.StoreWord dst o) = false
enables (deed.Test e) = false
enables (deed.Block t r rr) = false
enables (deed.Push v) = false
enables (deed.Pop dst v) = false
enables (deed.Call a) = false
enables (deed.Return a) = false
enables (deed.ReturnFromInterrupt flags a) = false
enables (deed.Jump taken a) = false
enables (deed.Loop r v taken a) = false
enables deed.EnableInterrupts = true
enables deed.DisableInterrupts = false

-- a deed done
done_leaves : (p : Pins) (m : Machine) (d : Deed) → Leaves (enables d) m (done_of p m d).machine
unfolding done_of stored_at word_stored_at flagged placed with_pc with_released popped returned interrupts_to interrupt_returned interrupts_enabled called looped
done_leaves p m deed.Nothing = nothing_moved m
done_leaves p m (deed.Move t) = transfer_leaves m t
done_leaves p m (deed.Store dst o) = let k = write_keeps m dst o.value in record { last3_left = k.last3_kept; released_left = k.released_kept }
done_leaves p m (deed.StoreWord dst o) = let k = pair_keeps m dst o.value in record { last3_left = k.last3_kept; released_left = k.released_kept }
done_leaves p m (deed.Test e) = record { last3_left = refl; released_left = refl }
done_leaves p m (deed.Block t r rr) = block_leaves p m t r rr
done_leaves p m (deed.Push v) = stores_leave (push_keeps m (One v))
done_leaves p m (deed.Pop dst v) = leaves_on (stores_leave (raise_keeps m 1)) (stores_leave (write_keeps (raised m 1) dst v))
done_leaves p m (deed.Call a) =
    let k = push_keeps m (Two (high_byte m.pc) (low_byte m.pc)) in
    record { last3_left = k.last3_kept; released_left = k.released_kept }
done_leaves p m (deed.Return a) = let k = raise_keeps m 2 in record { last3_left = k.last3_kept; released_left = k.released_kept }
done_leaves p m (deed.ReturnFromInterrupt flags a) = let k = raise_keeps m 3 in record { last3_left = k.last3_kept; released_left = k.released_kept }
done_leaves p m (deed.Jump taken a) = jump_leaves m taken a
done_leaves p m (deed.Loop r v taken a) = leaves_on (stores_leave (write_keeps m r v)) (jump_leaves (write_reg m r v) taken a)
done_leaves p m deed.EnableInterrupts = record { last3_left = refl; released_left = refl }
done_leaves p m deed.DisableInterrupts = record { last3_left = refl; released_left = refl }

-- EI's deed is no other kind's
abbrev is_ei : Kind → Bool
is_ei (Binary b w) = false
is_ei (Test t w) = false
is_ei (Unary u w) = false
is_ei (Paired d w) = false
is_ei (Call t) = false
is_ei Ccf = false
is_ei (Clr w) = false
is_ei (Da w) = false
is_ei Di = false
is_ei Djnz = false
is_ei Ei = true
is_ei Iret = false
is_ei (Jp t) = false
is_ei Jr = false
is_ei (Ld w) = false
is_ei (Ldc w) = false
is_ei (Ldci w) = false
is_ei (Lde w) = false
is_ei (Ldei w) = false
is_ei Nop = false
is_ei (Pop w) = false
is_ei (Push w) = false
is_ei Rcf = false
is_ei Ret = false
is_ei Scf = false
is_ei Srp = false

adjusts_only : (dst : ℕ) (a : Option (Outcome ℕ)) → enables (adjust_deed dst a) ≡ false
unfolding adjust_deed
adjusts_only dst (Some o) = refl
adjusts_only dst None = refl

module _ (p : Pins) (image mem : List ℕ) (m : Machine) (i : Code) where
  enables_by_kind : (k : Kind) → enables (deed_of p image mem m k i) ≡ is_ei k
  unfolding deed_of binary_deed test_deed unary_deed paired_deed da_deed ld_deed clr_deed ccf_deed rcf_deed scf_deed ldc_deed lde_deed ldci_deed ldei_deed pop_deed push_deed call_deed ret_deed iret_deed jp_deed jr_deed djnz_deed
  enables_by_kind (Binary b w) = refl
  enables_by_kind (Test t w) = refl
  enables_by_kind (Unary u w) = refl
  enables_by_kind (Paired d w) = refl
  enables_by_kind (Call t) = refl
  enables_by_kind Ccf = refl
  enables_by_kind (Clr w) = refl
  enables_by_kind (Da w) = adjusts_only (one_at p m w i) (da_of (read_reg p m (one_at p m w i)) (flags_of m))
  enables_by_kind Di = refl
  enables_by_kind Djnz = refl
  enables_by_kind Ei = refl
  enables_by_kind Iret = refl
  enables_by_kind (Jp Direct) = refl
  enables_by_kind (Jp Pair) = refl
  enables_by_kind Jr = refl
  enables_by_kind (Ld w) = refl
  enables_by_kind (Ldc w) = refl
  enables_by_kind (Ldci w) = refl
  enables_by_kind (Lde w) = refl
  enables_by_kind (Ldei w) = refl
  enables_by_kind Nop = refl
  enables_by_kind (Pop w) = refl
  enables_by_kind (Push w) = refl
  enables_by_kind Rcf = refl
  enables_by_kind Ret = refl
  enables_by_kind Scf = refl
  enables_by_kind Srp = refl

abbrev is_ei_entry : Option Kind → Bool
is_ei_entry None = false
is_ei_entry (Some k) = is_ei k

pub execute_leaves : (p : Pins) (image mem : List ℕ) (m : Machine)
    → Leaves (is_ei_entry (entry_of (code_at image m.pc).op)) m (execute_of p image mem m).machine
unfolding execute_of execute_as perform_of with_pc
execute_leaves p image mem m = go (entry_of (code_at image m.pc).op)
  where
    i : Code
    i = code_at image m.pc

    n : Machine
    n = next_of m i

    go : (e : Option Kind) → Leaves (is_ei_entry e) m (execute_as p image mem m e i).machine
    go None = record { last3_left = refl; released_left = refl }
    go (Some k) =
        let d = deed_of p image mem n k i in
        let done : Leaves (enables d) n (done_of p n d).machine = done_leaves p n d in
        let asked : enables d ≡ is_ei k = enables_by_kind p image mem n i k in
        record { last3_left = done.last3_left; released_left = done.released_left ∙ ap (λ (b : Bool). b || m.released) asked }

-- "EI alone releases", opcode 9F: an instruction leaves a machine released where it was so before, and where it is EI
pub ei_alone_releases : (p : Pins) (image mem : List ℕ) (m : Machine) → AllRead image
    → (execute_of p image mem m).machine.released ≡ eqb (program_byte image m.pc) 0x9F || m.released
unfolding code_at entry_of opcode_map
ei_alone_releases p image mem m all =
    let op = program_byte image m.pc in
    let by_opcode : is_ei_entry (entry_of op) ≡ eqb op 0x9F = agree (λ x. is_ei_entry (entry_of x)) (λ x. eqb x 0x9F) 256 refl op (program_byte_lem image m.pc all) in
    (execute_leaves p image mem m).released_left ∙ ap (λ (b : Bool). b || m.released) by_opcode
