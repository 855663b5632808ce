-- A legal machine stays legal through every instruction, and what is to be stored in data memory are bytes.
use Rattle.std.specs.Prelude.{Option, Some, None}
use Rattle.std.proofs.Common.{ℕ, ◌+◌, ◌%◌, ◌<◌, Bool, true, false, List, arith, lit<}
use Rattle.word.specs.Fields.{high_byte, low_byte}
use Rattle.word.specs.Words.{plus}
use Rattle.word.proofs.Computed.{by_test}
use Rattle.alu.specs.FlagByte.{laid}
use Rattle.alu.specs.declared.Flags.{Flags}
use Rattle.alu.proofs.Bytes.{ByteFlags, laid_byte}
use Rattle.opcodes.specs.Map.{entry_of}
use Rattle.opcodes.specs.Instruction.{length_of}
use Rattle.opcodes.specs.declared.Kind.{Kind}
use Rattle.machine.specs.State.{held, placed, with_pc}
use Rattle.word.specs.Choose.{bits_if}
use Rattle.machine.specs.Registers.{read_reg}
use Rattle.machine.specs.Addresses.{read_pair}
use Rattle.machine.specs.Memory.{list_of}
use Rattle.machine.specs.Stack.{Stacked, is_internal, pushed_internal, pushed_external, pushed}
use Rattle.machine.specs.Legal.{may_hold, Legal}
use Rattle.machine.specs.declared.Machine.{Machine}
use Rattle.machine.specs.declared.Pins.{Pins}
use Rattle.machine.specs.declared.Bytes.{Bytes}
use Rattle.machine.specs.declared.Bytes.TheVariants.{One, Two}
use Rattle.machine.specs.Memory.{Stores}
use Rattle.machine.proofs.Legal.{LegalPins, AllBytes, placed_legal, write_legal, pair_legal, pushed_legal, raised_legal, pc_legal, released_legal, program_byte_lem}
use Rattle.deeds.specs.Modes.{flags_of}
use Rattle.deeds.specs.Pages.{deed_of}
use Rattle.deeds.specs.declared.Code.{Code}
use Rattle.deeds.specs.declared.Transfer.{Transfer}
use Rattle.deeds.specs.declared.Transfer.TheVariants.{Dropped, ToRegister, ToMemory}
use Rattle.deeds.specs.declared.Deed.{Deed}
use Rattle.deeds.specs.declared.Deed.TheVariants as deed
use Rattle.deeds.proofs.Fits.{FitTransfer, FitDeed, ByteCode, AllRead, deed_fits}
use Rattle.execute.specs.Doing.{flagged, stored_at, word_stored_at, transferred, counted_up, pair_counted_up, block_moved, popped, returned, interrupts_to, interrupt_returned, interrupts_enabled, called, jumped, looped, done_of}
use Rattle.execute.specs.Execute.{Execution, code_at, perform_of, execute_as, execute_of}

-- FLAGS and IMR may hold any byte
any_may : {m : Machine} (v : ℕ) → Legal m → v < 256 → Legal (placed m 0xFC v)
unfolding may_hold
any_may v l h = placed_legal 0xFC v l (lit< tt) h tt

imr_may : {m : Machine} (v : ℕ) → Legal m → v < 256 → Legal (placed m 0xFB v)
unfolding may_hold
imr_may v l h = placed_legal 0xFB v l (lit< tt) h tt

flagged_legal : {m : Machine} (e : Flags) → Legal m → ByteFlags e → Legal (flagged m e)
unfolding flagged
flagged_legal {m} e l h = any_may (laid (flags_of m) e) l (laid_byte (flags_of m) e (l.file.bytes 0xFC) h)

bit_small : (on : Bool) → bits_if on 0x80 < 129
bit_small true = lit< tt
bit_small false = lit< tt

pub interrupts_legal : {m : Machine} (on : Bool) → Legal m → Legal (interrupts_to m on)
unfolding interrupts_to
interrupts_legal {m} on l = imr_may (held m 0xFB % 128 + bits_if on 0x80) l (omega (arith, bit_small on))

transfer_legal : {m : Machine} (t : Transfer) → Legal m → FitTransfer t → Legal (transferred m t).machine
unfolding transferred
transfer_legal Dropped l f = l
transfer_legal (ToRegister a v) l f = write_legal l a v f.0 f.1
transfer_legal (ToMemory a v) l f = l

counted_legal : (p : Pins) {m : Machine} (r : ℕ) → Legal m → r < 256 → Legal (counted_up p m r)
unfolding counted_up
counted_legal p {m} r l h = write_legal l r ((read_reg p m r + 1) % 256) h (omega arith)

pair_counted_legal : (p : Pins) {m : Machine} (rr : ℕ) → Legal m → rr < 256 → Legal (pair_counted_up p m rr)
unfolding pair_counted_up
pair_counted_legal p {m} rr l h = pair_legal rr (plus (read_pair p m rr) 1) l h (omega arith)

jumped_legal : {m : Machine} (taken : Bool) (to : ℕ) → Legal m → to < 65536 → Legal (jumped m taken to)
unfolding jumped
jumped_legal taken to l h = by_test Legal taken (λ t. pc_legal to l h) (λ t. l)

-- a deed done
pub done_legal : (p : Pins) (m : Machine) (d : Deed) → Legal m → FitDeed d → Legal (done_of p m d).machine
unfolding done_of stored_at word_stored_at block_moved popped returned interrupt_returned interrupts_enabled called looped
done_legal p m deed.Nothing l f = l
done_legal p m (deed.Move t) l f = transfer_legal t l f
done_legal p m (deed.Store dst o) l f = flagged_legal o.flags (write_legal l dst o.value f.0 f.1.0) f.1.1
done_legal p m (deed.StoreWord dst o) l f = flagged_legal o.flags (pair_legal dst o.value l f.0 f.1.0) f.1.1
done_legal p m (deed.Test e) l f = flagged_legal e l f
done_legal p m (deed.Block t r rr) l f = pair_counted_legal p rr (counted_legal p r (transfer_legal t l f.0) f.1) f.2
done_legal p m (deed.Push v) l f = pushed_legal (One v) l (f, tt)
done_legal p m (deed.Pop dst v) l f = write_legal (raised_legal 1 l) dst v f.0 f.1
done_legal p m (deed.Call a) l f =
    pc_legal a (pushed_legal (Two (high_byte m.pc) (low_byte m.pc)) l (omega (arith, l.pc_word), (omega arith, tt))) f
done_legal p m (deed.Return a) l f = pc_legal a (raised_legal 2 l) f
done_legal p m (deed.ReturnFromInterrupt flags a) l f = interrupts_legal true (pc_legal a (any_may flags (raised_legal 3 l) f.0) f.1)
done_legal p m (deed.Jump taken a) l f = jumped_legal taken a l f
done_legal p m (deed.Loop r v taken a) l f = jumped_legal taken a (write_legal l r v f.0 f.1) f.2
done_legal p m deed.EnableInterrupts l f = released_legal (interrupts_legal true l)
done_legal p m deed.DisableInterrupts l f = interrupts_legal false l

-- what is to be stored in data memory
abbrev pub FitStores : Stores → Type 0
FitStores None = Unit {0}
FitStores (Some (a, b)) = (a < 65536) × AllBytes (list_of b)

pub pushed_fits : (m : Machine) (b : Bytes) → AllBytes (list_of b) → FitStores (pushed m b).stores
unfolding pushed pushed_internal pushed_external
pushed_fits m b all = by_test (λ (s : Stacked). FitStores s.stores) (is_internal m) (λ t. tt) (λ t. (omega arith, all))

transfer_fits : (m : Machine) (t : Transfer) → FitTransfer t → FitStores (transferred m t).stores
unfolding transferred
transfer_fits m Dropped f = tt
transfer_fits m (ToRegister a v) f = tt
transfer_fits m (ToMemory a v) f = (f.0, (f.1, tt))

pub done_fits : (p : Pins) (m : Machine) (d : Deed) → Legal m → FitDeed d → FitStores (done_of p m d).stores
unfolding done_of block_moved called
done_fits p m deed.Nothing l f = tt
done_fits p m (deed.Move t) l f = transfer_fits m t f
done_fits p m (deed.Store dst o) l f = tt
done_fits p m (deed.StoreWord dst o) l f = tt
done_fits p m (deed.Test e) l f = tt
done_fits p m (deed.Block t r rr) l f = transfer_fits m t f.0
done_fits p m (deed.Push v) l f = pushed_fits m (One v) (f, tt)
done_fits p m (deed.Pop dst v) l f = tt
done_fits p m (deed.Call a) l f = pushed_fits m (Two (high_byte m.pc) (low_byte m.pc)) (omega (arith, l.pc_word), (omega arith, tt))
done_fits p m (deed.Return a) l f = tt
done_fits p m (deed.ReturnFromInterrupt flags a) l f = tt
done_fits p m (deed.Jump taken a) l f = tt
done_fits p m (deed.Loop r v taken a) l f = tt
done_fits p m deed.EnableInterrupts l f = tt
done_fits p m deed.DisableInterrupts l f = tt

code_bytes : (image : List ℕ) (pc : ℕ) → AllRead image → ByteCode (code_at image pc)
unfolding code_at
code_bytes image pc all =
    record {
      op_byte = program_byte_lem image pc all;
      first_byte = program_byte_lem image (plus pc 1) all;
      second_byte = program_byte_lem image (plus pc 2) all;
    }

-- an execution that leaves a legal machine, and bytes for data memory
pub record Sound (x : Execution) : Type 0 where
  pub legal : Legal x.machine
  pub fit : FitStores x.stores

pub perform_sound : (p : Pins) (image mem : List ℕ) (m : Machine) (k : Kind) (i : Code)
    → Legal m → LegalPins p → AllRead image → AllRead mem → ByteCode i → Sound (perform_of p image mem m k i)
unfolding perform_of
perform_sound p image mem m k i l lp li lm lc =
    let at = with_pc m (plus m.pc (length_of i.op)) in
    let l₁ = pc_legal (plus m.pc (length_of i.op)) l (omega arith) in
    let f = deed_fits p image mem at i l₁ lp li lm lc k in
    record { legal = done_legal p at (deed_of p image mem at k i) l₁ f; fit = done_fits p at (deed_of p image mem at k i) l₁ f }

pub execute_sound : (p : Pins) (image mem : List ℕ) (m : Machine) → Legal m → LegalPins p → AllRead image → AllRead mem → Sound (execute_of p image mem m)
unfolding execute_of execute_as
execute_sound p image mem m l lp li lm = go (entry_of (code_at image m.pc).op)
  where
    go : (e : Option Kind) → Sound (execute_as p image mem m e (code_at image m.pc))
    go None = record { legal = l; fit = tt }
    go (Some k) = perform_sound p image mem m k (code_at image m.pc) l lp li lm (code_bytes image m.pc li)
