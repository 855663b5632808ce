-- The opcode map: a row for each upper nibble of the opcode, a column for each lower one, as 004's Appendix C, 000 and 003 print it; 5.5 and
-- 5.6 give the same opcodes. (Column F is whole in 003 alone, which for its part has Ir where the others have Irr.) Each entry is a mnemonic with its
-- address modes (5.4), destination first as in 5.5, where the maps print the order of the bytes (1 is the destination, 2 the source).
-- "The blank areas are not defined": "231 opcodes are defined. The 25 undefined" (01) are exactly these (proved: `undefined_are`).
use Rattle.std.specs.Prelude.{ℕ, List, [], ◌∷◌, get_or, Option, Some, None}
use Rattle.word.specs.Fields.{upper, lower}
use Rattle.opcodes.specs.declared.Kind.{Kind}
use Rattle.opcodes.specs.declared.Kind.TheVariants.{Binary, Test, Unary, Paired, Call, Ccf, Clr, Da, Di, Djnz, Ei, Iret, Jp, Jr, Ld, Ldc, Ldci, Lde, Ldei, Nop, Pop, Push, Rcf, Ret, Scf, Srp}
use Rattle.opcodes.specs.declared.Binary.TheVariants as binary
use Rattle.opcodes.specs.declared.Test.TheVariants as test
use Rattle.opcodes.specs.declared.Unary.TheVariants as unary
use Rattle.opcodes.specs.declared.Paired.TheVariants as paired
use Rattle.opcodes.specs.declared.One.{One}
use Rattle.opcodes.specs.declared.One.TheVariants as one
use Rattle.opcodes.specs.declared.Two.{Two}
use Rattle.opcodes.specs.declared.Two.TheVariants as two
use Rattle.opcodes.specs.declared.Way.{Way}
use Rattle.opcodes.specs.declared.Way.TheVariants as way
use Rattle.opcodes.specs.declared.Target.{Target}
use Rattle.opcodes.specs.declared.Target.TheVariants as target

-- The address modes, under the names of 5.4.

-- one operand: a working register, a register (RR: the same field, of an instruction that takes a pair), an indirect register
abbrev pub r : One
r = one.Work

abbrev pub R : One
R = one.Reg

abbrev pub RR : One
RR = one.Reg

abbrev pub IR : One
IR = one.Ind

-- two operands, destination and source; X is an indexed register, IM an immediate byte
abbrev pub r-r : Two
r-r = two.WorkWork

abbrev pub r-Ir : Two
r-Ir = two.WorkInd

abbrev pub R-R : Two
R-R = two.RegReg

abbrev pub R-IR : Two
R-IR = two.RegInd

abbrev pub R-IM : Two
R-IM = two.RegImm

abbrev pub IR-IM : Two
IR-IM = two.IndImm

abbrev pub r-IM : Two
r-IM = two.WorkImm

abbrev pub r-R : Two
r-R = two.WorkReg

abbrev pub R-r : Two
R-r = two.RegWork

abbrev pub r-X : Two
r-X = two.WorkIndexed

abbrev pub X-r : Two
X-r = two.IndexedWork

abbrev pub Ir-r : Two
Ir-r = two.IndWork

abbrev pub IR-R : Two
IR-R = two.IndReg

-- LDC and LDE (r), LDCI and LDEI (Ir): In is from memory, at the address in the pair Irr, to the register, and Out the other way. Whether the
-- register itself is meant or one that it points to, the mnemonic says.
abbrev pub r-Irr : Way
r-Irr = way.In

abbrev pub Ir-Irr : Way
Ir-Irr = way.In

abbrev pub Irr-r : Way
Irr-r = way.Out

abbrev pub Irr-Ir : Way
Irr-Ir = way.Out

-- a jump's or a call's destination: a direct address, an indirect register pair
abbrev pub DA : Target
DA = target.Direct

abbrev pub IRR : Target
IRR = target.Pair

-- Pages that read and store alike are one kind; here each has its mnemonic.
abbrev pub Adc : Two → Kind
Adc w = Binary binary.Adc w

abbrev pub Add : Two → Kind
Add w = Binary binary.Add w

abbrev pub And : Two → Kind
And w = Binary binary.And w

abbrev pub Or : Two → Kind
Or w = Binary binary.Or w

abbrev pub Sbc : Two → Kind
Sbc w = Binary binary.Sbc w

abbrev pub Sub : Two → Kind
Sub w = Binary binary.Sub w

abbrev pub Xor : Two → Kind
Xor w = Binary binary.Xor w

abbrev pub Cp : Two → Kind
Cp w = Test test.Cp w

abbrev pub Tcm : Two → Kind
Tcm w = Test test.Tcm w

abbrev pub Tm : Two → Kind
Tm w = Test test.Tm w

abbrev pub Com : One → Kind
Com w = Unary unary.Com w

abbrev pub Dec : One → Kind
Dec w = Unary unary.Dec w

abbrev pub Inc : One → Kind
Inc w = Unary unary.Inc w

abbrev pub Rl : One → Kind
Rl w = Unary unary.Rl w

abbrev pub Rlc : One → Kind
Rlc w = Unary unary.Rlc w

abbrev pub Rr : One → Kind
Rr w = Unary unary.Rr w

abbrev pub Rrc : One → Kind
Rrc w = Unary unary.Rrc w

abbrev pub Sra : One → Kind
Sra w = Unary unary.Sra w

abbrev pub Swap : One → Kind
Swap w = Unary unary.Swap w

abbrev pub Decw : One → Kind
Decw w = Paired paired.Decw w

abbrev pub Incw : One → Kind
Incw w = Paired paired.Incw w

-- an instruction in a row, where a blank area is `None ∷`
infixr 67 ◌│◌
abbrev ◌│◌ : Kind → List (Option Kind) → List (Option Kind)
k │ es = Some k ∷ es

-- columns 8 to E, which the manual prints once for all rows (DJNZ r,RA; JR cc,RA; JP cc,DA), and column F
abbrev across : Option Kind → List (Option Kind)
across alone = Ld r-R │ Ld R-r │ Djnz │ Jr │ Ld r-IM │ Jp DA │ Inc r │ alone ∷ []

-- columns 0 to 7, then 8 to F; the upper nibble stands behind its row
unfoldable pub opcode_map : List (List (Option Kind))
opcode_map =
    (Dec R │ Dec IR │ Add r-r │ Add r-Ir │ Add R-R │ Add R-IR │ Add R-IM │ Add IR-IM │ across None)  -- 0
    ∷ (Rlc R │ Rlc IR │ Adc r-r │ Adc r-Ir │ Adc R-R │ Adc R-IR │ Adc R-IM │ Adc IR-IM │ across None)  -- 1
    ∷ (Inc R │ Inc IR │ Sub r-r │ Sub r-Ir │ Sub R-R │ Sub R-IR │ Sub R-IM │ Sub IR-IM │ across None)  -- 2
    ∷ (Jp IRR │ Srp │ Sbc r-r │ Sbc r-Ir │ Sbc R-R │ Sbc R-IR │ Sbc R-IM │ Sbc IR-IM │ across None)  -- 3
    ∷ (Da R │ Da IR │ Or r-r │ Or r-Ir │ Or R-R │ Or R-IR │ Or R-IM │ Or IR-IM │ across None)  -- 4
    ∷ (Pop R │ Pop IR │ And r-r │ And r-Ir │ And R-R │ And R-IR │ And R-IM │ And IR-IM │ across None)  -- 5
    ∷ (Com R │ Com IR │ Tcm r-r │ Tcm r-Ir │ Tcm R-R │ Tcm R-IR │ Tcm R-IM │ Tcm IR-IM │ across None)  -- 6
    ∷ (Push R │ Push IR │ Tm r-r │ Tm r-Ir │ Tm R-R │ Tm R-IR │ Tm R-IM │ Tm IR-IM │ across None)  -- 7
    ∷ (Decw RR │ Decw IR │ Lde r-Irr │ Ldei Ir-Irr │ None ∷ None ∷ None ∷ None ∷ across (Some Di))  -- 8
    ∷ (Rl R │ Rl IR │ Lde Irr-r │ Ldei Irr-Ir │ None ∷ None ∷ None ∷ None ∷ across (Some Ei))  -- 9
    ∷ (Incw RR │ Incw IR │ Cp r-r │ Cp r-Ir │ Cp R-R │ Cp R-IR │ Cp R-IM │ Cp IR-IM │ across (Some Ret))  -- A
    ∷ (Clr R │ Clr IR │ Xor r-r │ Xor r-Ir │ Xor R-R │ Xor R-IR │ Xor R-IM │ Xor IR-IM │ across (Some Iret))  -- B
    ∷ (Rrc R │ Rrc IR │ Ldc r-Irr │ Ldci Ir-Irr │ None ∷ None ∷ None ∷ Ld r-X │ across (Some Rcf))  -- C
    ∷ (Sra R │ Sra IR │ Ldc Irr-r │ Ldci Irr-Ir │ Call IRR │ None ∷ Call DA │ Ld X-r │ across (Some Scf))  -- D
    ∷ (Rr R │ Rr IR │ None ∷ Ld r-Ir │ Ld R-R │ Ld R-IR │ Ld R-IM │ Ld IR-IM │ across (Some Ccf))  -- E
    ∷ (Swap R │ Swap IR │ None ∷ Ld Ir-r │ None ∷ Ld IR-R │ None ∷ None ∷ across (Some Nop))  -- F
    ∷ []

-- what the map has at an opcode
unfoldable pub entry_of : ℕ → Option Kind
entry_of op = get_or (get_or opcode_map (upper op) []) (lower op) None
