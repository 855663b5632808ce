-- What is regular in the map, for the contracts of the code that executes it by column and row: nothing here has to be believed, as the
-- map alone says what an opcode is.
use Rattle.std.specs.Prelude.{ℕ, ◌-◌, Bool, [], ◌∷◌, eqb, get_or}
use Rattle.word.specs.Choose.{pick}
use Rattle.opcodes.specs.declared.One.{One}
use Rattle.opcodes.specs.declared.One.TheVariants as one
use Rattle.opcodes.specs.declared.Two.{Two}
use Rattle.opcodes.specs.declared.Two.TheVariants as two
use Rattle.opcodes.specs.declared.Target.{Target}
use Rattle.opcodes.specs.declared.Target.TheVariants as target
use Rattle.opcodes.specs.declared.Unary.{Unary}
use Rattle.opcodes.specs.declared.Unary.TheVariants as unary
use Rattle.opcodes.specs.declared.Kind.{Kind}
use Rattle.opcodes.specs.declared.Kind.TheVariants as kind
use Rattle.opcodes.specs.Map.{R, IR, r-r, r-Ir, R-R, R-IR, R-IM, IR-IM}

-- the address mode in columns 0 and 1
abbrev pub one_mode : ℕ → One
one_mode lo = pick (eqb lo 0) R IR

-- the address modes in columns 2 to 7 of an instruction that has all six of them (5.5, note 1)
abbrev pub two_modes : ℕ → Two
two_modes lo = get_or (r-r ∷ r-Ir ∷ R-R ∷ R-IR ∷ R-IM ∷ IR-IM ∷ []) (lo - 2) IR-IM

-- the cycles in the map's cells, by the address modes of two operands
abbrev pub two_cost : Two → ℕ
two_cost two.WorkWork = 6
two_cost two.WorkInd = 6
two_cost two.RegReg = 10
two_cost two.RegInd = 10
two_cost two.RegImm = 10
two_cost two.IndImm = 10
two_cost two.WorkImm = 6
two_cost two.WorkReg = 6
two_cost two.RegWork = 6
two_cost two.WorkIndexed = 10
two_cost two.IndexedWork = 10
two_cost two.IndWork = 6
two_cost two.IndReg = 10

abbrev pub unary_cost : Unary → ℕ
unary_cost unary.Com = 6
unary_cost unary.Dec = 6
unary_cost unary.Inc = 6
unary_cost unary.Rl = 6
unary_cost unary.Rlc = 6
unary_cost unary.Rr = 6
unary_cost unary.Rrc = 6
unary_cost unary.Sra = 6
unary_cost unary.Swap = 8

-- of PUSH, by the kind of stack (no opcode has PUSH r); of jumps, by whether they are taken
abbrev pub push_cost : One → Bool → ℕ
push_cost one.Work internal = 10
push_cost one.Reg internal = pick internal 10 12
push_cost one.Ind internal = pick internal 12 14

abbrev pub jump_cost : Bool → ℕ
jump_cost taken = pick taken 12 10

abbrev pub jp_cost : Target → Bool → ℕ
jp_cost target.Direct taken = jump_cost taken
jp_cost target.Pair taken = 8

-- so the cycles of an opcode are those of its kind (proved: `cycles_by_kind`)
abbrev pub cost_of : Kind → Bool → ℕ
cost_of (kind.Binary b w) first = two_cost w
cost_of (kind.Test t w) first = two_cost w
cost_of (kind.Unary u w) first = unary_cost u
cost_of (kind.Paired p w) first = 10
cost_of (kind.Call t) first = 20
cost_of kind.Ccf first = 6
cost_of (kind.Clr w) first = 6
cost_of (kind.Da w) first = 8
cost_of kind.Di first = 6
cost_of kind.Djnz first = jump_cost first
cost_of kind.Ei first = 6
cost_of kind.Iret first = 16
cost_of (kind.Jp t) first = jp_cost t first
cost_of kind.Jr first = jump_cost first
cost_of (kind.Ld w) first = two_cost w
cost_of (kind.Ldc w) first = 12
cost_of (kind.Ldci w) first = 18
cost_of (kind.Lde w) first = 12
cost_of (kind.Ldei w) first = 18
cost_of kind.Nop first = 6
cost_of (kind.Pop w) first = 10
cost_of (kind.Push w) first = push_cost w first
cost_of kind.Rcf first = 6
cost_of kind.Ret first = 14
cost_of kind.Scf first = 6
cost_of kind.Srp first = 6
