-- Of a legal machine, bytes for pins and memories and an instruction's bytes, what an instruction is to do holds addresses, bytes and words
-- that fit.
use mathlib.Core.List.{List}
use Rattle.std.proofs.Common.{Option, Some, None}
use Prim.Native.Nat.{ℕ, ◌<◌}
use native.Mathlib.Omega.{arith}
use lib.Dec.{lit<}
use lib.IntN.{ℤ, pos, negsuc}
use lib.ListN.{get_or}
use Rattle.word.specs.Fields.{upper, lower}
use Rattle.word.specs.Words.{disp_of, moved_by}
use Rattle.alu.specs.Decimal.{da_of}
use Rattle.alu.specs.declared.Outcome.{Outcome}
use Rattle.alu.proofs.Bytes.{ByteFlags, ByteOutcome, WordFits, ByteAdjusted, add_byte, adc_byte, sub_byte, sbc_byte, cp_byte, inc_byte, dec_byte, incw_word, decw_word, and_byte, or_byte, xor_byte, com_byte, tm_byte, tcm_byte, rl_byte, rlc_byte, rr_byte, rrc_byte, sra_byte, swap_byte, da_byte, rcf_byte, scf_byte, ccf_byte}
use Rattle.opcodes.specs.declared.Kind.{Kind}
use Rattle.opcodes.specs.declared.Kind.TheVariants.{Binary, Test, Unary, Paired, Call, Ccf, Clr, Da, Di, Djnz, Ei, Iret, Jp, Jr, Ld, Ldc, Ldci, Lde, Ldei, Nop, Pop, Push, Rcf, Ret, Scf, Srp}
use Rattle.opcodes.specs.declared.Binary as binary
use Rattle.opcodes.specs.declared.Binary.TheVariants.{Adc, Add, And, Or, Sbc, Sub, Xor}
use Rattle.opcodes.specs.declared.Test as test
use Rattle.opcodes.specs.declared.Test.TheVariants.{Cp, Tcm, Tm}
use Rattle.opcodes.specs.declared.Unary as unary
use Rattle.opcodes.specs.declared.Unary.TheVariants.{Com, Dec, Inc, Rl, Rlc, Rr, Rrc, Sra, Swap}
use Rattle.opcodes.specs.declared.Paired as paired
use Rattle.opcodes.specs.declared.Paired.TheVariants.{Decw, Incw}
use Rattle.opcodes.specs.declared.One.{One}
use Rattle.opcodes.specs.declared.One.TheVariants.{Work, Reg, Ind}
use Rattle.opcodes.specs.declared.Two.{Two}
use Rattle.opcodes.specs.declared.Two.TheVariants.{WorkWork, WorkInd, RegReg, RegInd, RegImm, IndImm, WorkImm, WorkReg, RegWork, WorkIndexed, IndexedWork, IndWork, IndReg}
use Rattle.opcodes.specs.declared.Way.{Way}
use Rattle.opcodes.specs.declared.Way.TheVariants.{In, Out}
use Rattle.opcodes.specs.declared.Target.{Target}
use Rattle.opcodes.specs.declared.Target.TheVariants.{Direct, Pair}
use Rattle.machine.specs.Registers.{read_reg}
use Rattle.machine.specs.Addresses.{working_at, register_at, indirect_at, working_indirect_at, read_pair}
use Rattle.machine.specs.Stack.{stack_byte}
use Rattle.machine.specs.Legal.{Legal}
use Rattle.machine.specs.declared.Machine.{Machine}
use Rattle.machine.specs.declared.Pins.{Pins}
use Rattle.machine.proofs.Legal.{LegalPins, read_byte, working_byte, register_byte, indexed_byte, pair_word, program_byte_lem, data_byte_lem, stack_byte_lem}
use Rattle.deeds.specs.Modes.{flags_of, upper_at, lower_at, one_at, from_register, operands_of, target_of}
use Rattle.deeds.specs.Results.{binary_of, test_of, unary_of, paired_of}
use Rattle.deeds.specs.Pages.{binary_deed, test_deed, unary_deed, paired_deed, adjust_deed, da_deed, ld_deed, clr_deed, ccf_deed, rcf_deed, scf_deed, program_move, data_move, pointed_at, ldc_deed, lde_deed, ldci_deed, ldei_deed, pop_deed, push_deed, call_deed, ret_deed, iret_deed, jp_deed, jr_deed, djnz_deed, deed_of}
use Rattle.deeds.specs.declared.Code.{Code}
use Rattle.deeds.specs.declared.Operands.{Operands}
use Rattle.deeds.specs.declared.Transfer.{Transfer}
use Rattle.deeds.specs.declared.Transfer.TheVariants.{Dropped, ToRegister, ToMemory}
use Rattle.deeds.specs.declared.Deed.{Deed}
use Rattle.deeds.specs.declared.Deed.TheVariants as deed

abbrev pub FitTransfer : Transfer → Type 0
FitTransfer Dropped = Unit {0}
FitTransfer (ToRegister a v) = (a < 256) × (v < 256)
FitTransfer (ToMemory a v) = (a < 65536) × (v < 256)

abbrev pub FitDeed : Deed → Type 0
FitDeed deed.Nothing = Unit {0}
FitDeed (deed.Move t) = FitTransfer t
FitDeed (deed.Store a o) = (a < 256) × ByteOutcome o
FitDeed (deed.StoreWord a o) = (a < 256) × WordFits o
FitDeed (deed.Test e) = ByteFlags e
FitDeed (deed.Block t r rr) = FitTransfer t × (r < 256) × (rr < 256)
FitDeed (deed.Push v) = v < 256
FitDeed (deed.Pop a v) = (a < 256) × (v < 256)
FitDeed (deed.Call a) = a < 65536
FitDeed (deed.Return a) = a < 65536
FitDeed (deed.ReturnFromInterrupt f a) = (f < 256) × (a < 65536)
FitDeed (deed.Jump taken a) = a < 65536
FitDeed (deed.Loop r v taken a) = (r < 256) × (v < 256) × (a < 65536)
FitDeed deed.EnableInterrupts = Unit {0}
FitDeed deed.DisableInterrupts = Unit {0}

-- an instruction's bytes are bytes
pub record ByteCode (i : Code) : Type 0 where
  pub op_byte : i.op < 256
  pub first_byte : i.first < 256
  pub second_byte : i.second < 256

-- all that is read is a byte
abbrev pub AllRead : List ℕ → Type 0
AllRead l = (i : ℕ) → get_or l i 0xFF < 256

-- ---- the arithmetic
binary_fits : (b : binary.Binary) (dst src read : ℕ) → dst < 256 → src < 256 → ByteOutcome (binary_of b dst src read)
unfolding binary_of
binary_fits Adc dst src read h k = adc_byte dst src read h k
binary_fits Add dst src read h k = add_byte dst src h k
binary_fits And dst src read h k = and_byte dst src h k
binary_fits Or dst src read h k = or_byte dst src h k
binary_fits Sbc dst src read h k = sbc_byte dst src read
binary_fits Sub dst src read h k = sub_byte dst src
binary_fits Xor dst src read h k = xor_byte dst src h k

test_fits : (t : test.Test) (dst src : ℕ) → dst < 256 → src < 256 → ByteFlags (test_of t dst src)
unfolding test_of
test_fits Cp dst src h k = cp_byte dst src
test_fits Tcm dst src h k = tcm_byte dst src k
test_fits Tm dst src h k = tm_byte dst src h k

unary_fits : (u : unary.Unary) (dst read : ℕ) → dst < 256 → ByteOutcome (unary_of u dst read)
unfolding unary_of
unary_fits Com dst read h = com_byte dst
unary_fits Dec dst read h = dec_byte dst
unary_fits Inc dst read h = inc_byte dst
unary_fits Rl dst read h = rl_byte dst h
unary_fits Rlc dst read h = rlc_byte dst read h
unary_fits Rr dst read h = rr_byte dst h
unary_fits Rrc dst read h = rrc_byte dst read h
unary_fits Sra dst read h = sra_byte dst h
unary_fits Swap dst read h = swap_byte dst h

paired_fits : (d : paired.Paired) (w : ℕ) → WordFits (paired_of d w)
unfolding paired_of
paired_fits Decw w = decw_word w
paired_fits Incw w = incw_word w

adjust_fits : (a : ℕ) (x : Option (Outcome ℕ)) → a < 256 → ByteAdjusted x → FitDeed (adjust_deed a x)
unfolding adjust_deed
adjust_fits a (Some o) h k = (h, k)
adjust_fits a None h k = tt

moved_word : (w : ℕ) (d : ℤ) → moved_by w d < 65536
unfolding moved_by
moved_word w (pos n) = omega arith
moved_word w (negsuc n) = omega arith

abbrev FitOperands : Operands → Type 0
FitOperands o = (o.dst < 256) × (o.src < 256)

module _ (p : Pins) (image mem : List ℕ) (m : Machine) (i : Code) (l : Legal m) (lp : LegalPins p) (li : AllRead image) (lm : AllRead mem) (lc : ByteCode i) where
  -- ---- operands
  upper_fits : (b : ℕ) → b < 256 → upper_at m b < 256
  upper_fits b h = working_byte m (upper b) l (omega arith)

  lower_fits : (b : ℕ) → lower_at m b < 256
  lower_fits b = working_byte m (lower b) l (omega arith)

  register_fits : (b : ℕ) → b < 256 → register_at m b < 256
  register_fits b h = register_byte m b l h

  indirect_fits : (b : ℕ) → indirect_at p m b < 256
  unfolding indirect_at
  indirect_fits b = read_byte l p (register_at m b) lp

  through_fits : (x : ℕ) → working_indirect_at p m x < 256
  unfolding working_indirect_at
  through_fits x = read_byte l p (working_at m x) lp

  one_fits : (w : One) → one_at p m w i < 256
  unfolding one_at
  one_fits Work = upper_fits i.op lc.op_byte
  one_fits Reg = register_fits i.first lc.first_byte
  one_fits Ind = indirect_fits i.first

  from_fits : (dst a : ℕ) → dst < 256 → FitOperands (from_register p m dst a)
  unfolding from_register
  from_fits dst a h = (h, read_byte l p a lp)

  two_fits : (w : Two) → FitOperands (operands_of p m w i)
  unfolding operands_of
  two_fits WorkWork = from_fits _ _ (upper_fits i.first lc.first_byte)
  two_fits WorkInd = from_fits _ _ (upper_fits i.first lc.first_byte)
  two_fits RegReg = from_fits _ _ (register_fits i.second lc.second_byte)
  two_fits RegInd = from_fits _ _ (register_fits i.second lc.second_byte)
  two_fits RegImm = (register_fits i.first lc.first_byte, lc.second_byte)
  two_fits IndImm = (indirect_fits i.first, lc.second_byte)
  two_fits WorkImm = (upper_fits i.op lc.op_byte, lc.first_byte)
  two_fits WorkReg = from_fits _ _ (upper_fits i.op lc.op_byte)
  two_fits RegWork = from_fits _ _ (register_fits i.first lc.first_byte)
  two_fits WorkIndexed = from_fits _ _ (upper_fits i.first lc.first_byte)
  two_fits IndexedWork = from_fits _ _ (indexed_byte p m i.second (lower i.first))
  two_fits IndWork = from_fits _ _ (through_fits (upper i.first))
  two_fits IndReg = from_fits _ _ (indirect_fits i.second)

  target_fits : (t : Target) → target_of p m t i < 65536
  unfolding target_of
  target_fits Direct = omega (arith, lc.first_byte, lc.second_byte)
  target_fits Pair = pair_word p m (register_at m i.first) l lp

  -- ---- memories and the stack
  program_fits : (w : Way) (x a : ℕ) → x < 256 → FitTransfer (program_move image w x a)
  unfolding program_move
  program_fits In x a h = (h, program_byte_lem image a li)
  program_fits Out x a h = tt

  data_fits : (w : Way) (x a : ℕ) → x < 256 → a < 65536 → FitTransfer (data_move p mem m w x a)
  unfolding data_move
  data_fits In x a h k = (h, data_byte_lem m.kind mem a lm)
  data_fits Out x a h k = (k, read_byte l p x lp)

  pointed_fits : pointed_at p m i < 65536
  pointed_fits = pair_word p m (lower_at m i.first) l lp

  stack_fits : (n : ℕ) → stack_byte p m mem n < 256
  stack_fits n = stack_byte_lem p m mem n l lp lm

  flags_fit : flags_of m < 256
  flags_fit = l.file.bytes 0xFC

  jp_fits : (t : Target) → FitDeed (jp_deed p m t i)
  unfolding jp_deed
  jp_fits Direct = target_fits Direct
  jp_fits Pair = target_fits Pair

  -- ---- all of chapter 5
  pub deed_fits : (k : Kind) → FitDeed (deed_of p image mem m k i)
  unfolding deed_of binary_deed test_deed unary_deed paired_deed da_deed ld_deed clr_deed ccf_deed rcf_deed scf_deed ldc_deed lde_deed ldci_deed ldei_deed pop_deed push_deed call_deed ret_deed iret_deed jr_deed djnz_deed
  deed_fits (Binary b w) =
      let o = operands_of p m w i in
      ((two_fits w).0, binary_fits b (read_reg p m o.dst) o.src (flags_of m) (read_byte l p o.dst lp) (two_fits w).1)
  deed_fits (Test t w) =
      let o = operands_of p m w i in
      test_fits t (read_reg p m o.dst) o.src (read_byte l p o.dst lp) (two_fits w).1
  deed_fits (Unary u w) = (one_fits w, unary_fits u (read_reg p m (one_at p m w i)) (flags_of m) (read_byte l p (one_at p m w i) lp))
  deed_fits (Paired d w) = (one_fits w, paired_fits d (read_pair p m (one_at p m w i)))
  deed_fits (Call t) = target_fits t
  deed_fits Ccf = (lit< tt, ccf_byte (flags_of m) flags_fit)
  deed_fits (Clr w) = (one_fits w, lit< tt)
  deed_fits (Da w) =
      adjust_fits (one_at p m w i) (da_of (read_reg p m (one_at p m w i)) (flags_of m)) (one_fits w)
      (da_byte (read_reg p m (one_at p m w i)) (flags_of m) (read_byte l p (one_at p m w i) lp))
  deed_fits Di = tt
  deed_fits Djnz = (upper_fits i.op lc.op_byte, omega arith, moved_word m.pc (disp_of i.first))
  deed_fits Ei = tt
  deed_fits Iret = (stack_fits 0, omega (arith, stack_fits 1, stack_fits 2))
  deed_fits (Jp t) = jp_fits t
  deed_fits Jr = moved_word m.pc (disp_of i.first)
  deed_fits (Ld w) = two_fits w
  deed_fits (Ldc w) = program_fits w (upper_at m i.first) (pointed_at p m i) (upper_fits i.first lc.first_byte)
  deed_fits (Ldci w) =
      (program_fits w (working_indirect_at p m (upper i.first)) (pointed_at p m i) (through_fits (upper i.first)), upper_fits i.first lc.first_byte, lower_fits i.first)
  deed_fits (Lde w) = data_fits w (upper_at m i.first) (pointed_at p m i) (upper_fits i.first lc.first_byte) pointed_fits
  deed_fits (Ldei w) =
      (data_fits w (working_indirect_at p m (upper i.first)) (pointed_at p m i) (through_fits (upper i.first)) pointed_fits, upper_fits i.first lc.first_byte, lower_fits i.first)
  deed_fits Nop = tt
  deed_fits (Pop w) = (one_fits w, stack_fits 0)
  deed_fits (Push w) = read_byte l p (one_at p m w i) lp
  deed_fits Rcf = (lit< tt, rcf_byte (flags_of m) flags_fit)
  deed_fits Ret = omega (arith, stack_fits 0, stack_fits 1)
  deed_fits Scf = (lit< tt, scf_byte (flags_of m) flags_fit)
  deed_fits Srp = (lit< tt, lc.first_byte)
