-- What each page of chapter 5 has an instruction do, in the pages' order, with everything read that it needs: a deed. What is written
-- then, and in which order, is the room `execute`'s. Throughout, m is the machine before the instruction, but with its program counter
-- already at the next one; p are the pins, i the instruction's bytes.
use Rattle.std.specs.Prelude.{Option, Some, None, Bool, true, not, List, ℕ, ◌+◌, ◌%◌, eqb}
use Rattle.word.specs.Fields.{upper, word_of}
use Rattle.word.specs.Words.{disp_of, moved_by}
use Rattle.alu.specs.FlagByte.{rcf_of, scf_of, ccf_of}
use Rattle.alu.specs.Decimal.{da_of}
use Rattle.alu.specs.Conditions.{holds_of}
use Rattle.alu.specs.declared.Outcome.{Outcome}
use Rattle.opcodes.specs.declared.Kind.{Kind}
use Rattle.opcodes.specs.declared.Kind.TheVariants.{Binary, Test, Unary, Paired, Call, Ccf, Clr, Da, Di, Djnz, Ei, Iret, Jp, Jr, Ld, Ldc, Ldci, Lde, Ldei, Nop, Pop, Push, Rcf, Ret, Scf, Srp}
use Rattle.opcodes.specs.declared.Binary as binary
use Rattle.opcodes.specs.declared.Test as test
use Rattle.opcodes.specs.declared.Unary as unary
use Rattle.opcodes.specs.declared.Paired as paired
use Rattle.opcodes.specs.declared.One.{One}
use Rattle.opcodes.specs.declared.Two.{Two}
use Rattle.opcodes.specs.declared.Way.{Way}
use Rattle.opcodes.specs.declared.Way.TheVariants.{In, Out}
use Rattle.opcodes.specs.declared.Target.{Target}
use Rattle.opcodes.specs.declared.Target.TheVariants.{Direct, Pair}
use Rattle.machine.specs.Names.{FLAGS, RP}
use Rattle.machine.specs.Registers.{read_reg}
use Rattle.machine.specs.Addresses.{working_indirect_at, read_pair}
use Rattle.machine.specs.Memory.{program_byte, data_byte}
use Rattle.machine.specs.Stack.{stack_byte, is_internal}
use Rattle.machine.specs.declared.Machine.{Machine}
use Rattle.machine.specs.declared.Pins.{Pins}
use Rattle.deeds.specs.Modes.{flags_of, upper_at, lower_at, one_at, operands_of, target_of}
use Rattle.deeds.specs.Results.{binary_of, test_of, unary_of, paired_of}
use Rattle.deeds.specs.declared.Code.{Code}
use Rattle.deeds.specs.declared.Transfer.{Transfer}
use Rattle.deeds.specs.declared.Transfer.TheVariants.{Dropped, ToRegister, ToMemory}
use Rattle.deeds.specs.declared.Deed.{Deed}
use Rattle.deeds.specs.declared.Deed.TheVariants as deed

-- a byte to the register at an address; no flags affected
abbrev pub load : ℕ → ℕ → Deed
load dst v = deed.Move (ToRegister dst v)

-- ADC, ADD, AND, OR, SBC, SUB, XOR: dst <-- the result of dst and src
unfoldable pub binary_deed : Pins → Machine → binary.Binary → Two → Code → Deed
binary_deed p m b w i =
    let o = operands_of p m w i in
    deed.Store o.dst (binary_of b (read_reg p m o.dst) o.src (flags_of m))

-- CALL. The address is taken before anything is pushed.
unfoldable pub call_deed : Pins → Machine → Target → Code → Deed
call_deed p m t i = deed.Call (target_of p m t i)

-- CCF, RCF, SCF: "No other flags affected"
unfoldable pub ccf_deed : Machine → Deed
ccf_deed m = load FLAGS (ccf_of (flags_of m))

unfoldable pub rcf_deed : Machine → Deed
rcf_deed m = load FLAGS (rcf_of (flags_of m))

unfoldable pub scf_deed : Machine → Deed
scf_deed m = load FLAGS (scf_of (flags_of m))

-- CLR: dst <-- 0
unfoldable pub clr_deed : Pins → Machine → One → Code → Deed
clr_deed p m w i = load (one_at p m w i) 0

-- COM, DEC, INC, RL, RLC, RR, RRC, SRA, SWAP: dst <-- the result of dst
unfoldable pub unary_deed : Pins → Machine → unary.Unary → One → Code → Deed
unary_deed p m u w i =
    let dst = one_at p m w i in
    deed.Store dst (unary_of u (read_reg p m dst) (flags_of m))

-- CP, TCM, TM: flags alone; "the destination location still contains its original value" (TM)
unfoldable pub test_deed : Pins → Machine → test.Test → Two → Code → Deed
test_deed p m t w i =
    let o = operands_of p m w i in
    deed.Test (test_of t (read_reg p m o.dst) o.src)

-- DA: the outcome of a row is stored, also where the row adds 00; "a combination in no row changes nothing, flags included (HOUSE)"
unfoldable pub adjust_deed : ℕ → Option (Outcome ℕ) → Deed
adjust_deed dst (Some o) = deed.Store dst o
adjust_deed dst None = deed.Nothing

unfoldable pub da_deed : Pins → Machine → One → Code → Deed
da_deed p m w i =
    let dst = one_at p m w i in
    adjust_deed dst (da_of (read_reg p m dst) (flags_of m))

-- DECW, INCW. The address is a field's (RR) or one found in a register (IR); `read_pair` and `write_pair` drop its lowest bit.
unfoldable pub paired_deed : Pins → Machine → paired.Paired → One → Code → Deed
paired_deed p m d w i =
    let dst = one_at p m w i in
    deed.StoreWord dst (paired_of d (read_pair p m dst))

-- DI: IMR (7) <-- 0. EI: IMR (7) <-- 1, and IRQ is released (02, C-13).
abbrev pub di_deed : Deed
di_deed = deed.DisableInterrupts

abbrev pub ei_deed : Deed
ei_deed = deed.EnableInterrupts

-- "A displacement is -128 to 127 from the next instruction"
abbrev pub relative : Machine → ℕ → ℕ
relative m b = moved_by m.pc (disp_of b)

-- DJNZ: r <-- r - 1; if r is not 0, PC <-- PC + dst. "Flags and DJNZ's test go by the result, not by a reading back."
unfoldable pub djnz_deed : Pins → Machine → Code → Deed
djnz_deed p m i =
    let r = upper_at m i.op in
    let result : ℕ = (read_reg p m r + 255) % 256 in
    deed.Loop r result (not (eqb result 0)) (relative m i.first)

-- IRET: FLAGS and PC from the stack; "an interrupt's FLAGS lie below" the address
unfoldable pub iret_deed : Pins → List ℕ → Machine → Deed
iret_deed p mem m = deed.ReturnFromInterrupt (stack_byte p m mem 0) (word_of (stack_byte p m mem 1) (stack_byte p m mem 2))

-- whether the condition in the opcode's upper nibble holds
abbrev pub condition_of : Machine → Code → Bool
condition_of m i = holds_of (upper i.op) (flags_of m)

-- JP: if cc is true, PC <-- dst; through a pair it is unconditional. (The page's "decremented by one" is not followed: see DECISIONS.)
unfoldable pub jp_deed : Pins → Machine → Target → Code → Deed
jp_deed p m Direct i = deed.Jump (condition_of m i) (target_of p m Direct i)
jp_deed p m Pair i = deed.Jump true (target_of p m Pair i)

-- JR: if cc is true, PC <-- PC + dst
unfoldable pub jr_deed : Machine → Code → Deed
jr_deed m i = deed.Jump (condition_of m i) (relative m i.first)

-- LD: dst <-- src
unfoldable pub ld_deed : Pins → Machine → Two → Code → Deed
ld_deed p m w i =
    let o = operands_of p m w i in
    load o.dst o.src

-- LDC, LDCI, LDE, LDEI, whose boxes are OPC dst src and OPC src dst: whichever way, the register is named by the upper nibble, and the
-- lower one names the pair that has the memory's address, Irr
abbrev pub pointed_at : Pins → Machine → Code → ℕ
pointed_at p m i = read_pair p m (lower_at m i.first)

-- between the register at x and program memory at a. "LDC and LDCI stores are dropped (HOUSE)."
unfoldable pub program_move : List ℕ → Way → ℕ → ℕ → Transfer
program_move image In x a = ToRegister x (program_byte image a)
program_move image Out x a = Dropped

-- between the register at x and data memory at a
unfoldable pub data_move : Pins → List ℕ → Machine → Way → ℕ → ℕ → Transfer
data_move p mem m In x a = ToRegister x (data_byte m.kind mem a)
data_move p mem m Out x a = ToMemory a (read_reg p m x)

-- LDC and LDE: the register named is the operand, r
unfoldable pub ldc_deed : Pins → List ℕ → Machine → Way → Code → Deed
ldc_deed p image m w i = deed.Move (program_move image w (upper_at m i.first) (pointed_at p m i))

unfoldable pub lde_deed : Pins → List ℕ → Machine → Way → Code → Deed
lde_deed p mem m w i = deed.Move (data_move p mem m w (upper_at m i.first) (pointed_at p m i))

-- LDCI and LDEI: the register named has the operand's address, Ir. Then r <-- r + 1 and rr <-- rr + 1.
unfoldable pub ldci_deed : Pins → List ℕ → Machine → Way → Code → Deed
ldci_deed p image m w i =
    deed.Block (program_move image w (working_indirect_at p m (upper i.first)) (pointed_at p m i)) (upper_at m i.first) (lower_at m i.first)

unfoldable pub ldei_deed : Pins → List ℕ → Machine → Way → Code → Deed
ldei_deed p mem m w i =
    deed.Block (data_move p mem m w (working_indirect_at p m (upper i.first)) (pointed_at p m i)) (upper_at m i.first) (lower_at m i.first)

-- NOP: "No action is performed by this instruction."
abbrev pub nop_deed : Deed
nop_deed = deed.Nothing

-- POP: dst <-- @SP
unfoldable pub pop_deed : Pins → List ℕ → Machine → One → Code → Deed
pop_deed p mem m w i = deed.Pop (one_at p m w i) (stack_byte p m mem 0)

-- PUSH: @SP <-- src
unfoldable pub push_deed : Pins → Machine → One → Code → Deed
push_deed p m w i = deed.Push (read_reg p m (one_at p m w i))

-- RET: PC <-- @SP; "A pushed address has its high byte lower"
unfoldable pub ret_deed : Pins → List ℕ → Machine → Deed
ret_deed p mem m = deed.Return (word_of (stack_byte p m mem 0) (stack_byte p m mem 1))

-- SRP: RP <-- src, by the register's rule: "Bits 0-3 of the RP are always set to 0", and its low nibble "always reads 0 (HOUSE)"
abbrev pub srp_deed : Code → Deed
srp_deed i = load RP i.first

-- all of chapter 5
unfoldable pub deed_of : Pins → List ℕ → List ℕ → Machine → Kind → Code → Deed
deed_of p image mem m (Binary b w) i = binary_deed p m b w i
deed_of p image mem m (Test t w) i = test_deed p m t w i
deed_of p image mem m (Unary u w) i = unary_deed p m u w i
deed_of p image mem m (Paired d w) i = paired_deed p m d w i
deed_of p image mem m (Call t) i = call_deed p m t i
deed_of p image mem m Ccf i = ccf_deed m
deed_of p image mem m (Clr w) i = clr_deed p m w i
deed_of p image mem m (Da w) i = da_deed p m w i
deed_of p image mem m Di i = di_deed
deed_of p image mem m Djnz i = djnz_deed p m i
deed_of p image mem m Ei i = ei_deed
deed_of p image mem m Iret i = iret_deed p mem m
deed_of p image mem m (Jp t) i = jp_deed p m t i
deed_of p image mem m Jr i = jr_deed m i
deed_of p image mem m (Ld w) i = ld_deed p m w i
deed_of p image mem m (Ldc w) i = ldc_deed p image m w i
deed_of p image mem m (Ldci w) i = ldci_deed p image m w i
deed_of p image mem m (Lde w) i = lde_deed p mem m w i
deed_of p image mem m (Ldei w) i = ldei_deed p mem m w i
deed_of p image mem m Nop i = nop_deed
deed_of p image mem m (Pop w) i = pop_deed p mem m w i
deed_of p image mem m (Push w) i = push_deed p m w i
deed_of p image mem m Rcf i = rcf_deed m
deed_of p image mem m Ret i = ret_deed p mem m
deed_of p image mem m Scf i = scf_deed m
deed_of p image mem m Srp i = srp_deed i

-- which of two figures in the map a deed costs, true for the first, which is the jump taken or the stack internal. The stack's kind is that
-- before anything is written. Where a cell has one figure, nothing hangs on it.
unfoldable pub outcome_of : Machine → Deed → Bool
outcome_of m deed.Nothing = true
outcome_of m (deed.Move t) = true
outcome_of m (deed.Store dst o) = true
outcome_of m (deed.StoreWord dst o) = true
outcome_of m (deed.Test e) = true
outcome_of m (deed.Block t r rr) = true
outcome_of m (deed.Push v) = is_internal m
outcome_of m (deed.Pop dst v) = true
outcome_of m (deed.Call a) = true
outcome_of m (deed.Return a) = true
outcome_of m (deed.ReturnFromInterrupt flags a) = true
outcome_of m (deed.Jump taken a) = taken
outcome_of m (deed.Loop r v taken a) = taken
outcome_of m deed.EnableInterrupts = true
outcome_of m deed.DisableInterrupts = true
