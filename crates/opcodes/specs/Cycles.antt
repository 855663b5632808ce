-- The execution cycles of the opcode map (000 and 003): the first figure in each of its cells. Two figures are two outcomes, of a jump and of
-- the kind of stack: "Taken DJNZ, JR and JP cc 12, else 10. PUSH R 10 with internal stack, 12 external; PUSH IR 12 and 14. CALL 20, RET 14,
-- IRET 16. The longest instruction takes 20." (01). DA @R is 8 by its page and by 000; 003 prints 6.
use Rattle.std.specs.Prelude.{ℕ, Bool, List, [], ◌∷◌, get_or}
use Rattle.word.specs.Choose.{pick}
use Rattle.word.specs.Fields.{upper, lower}

pub data Figure : Type 0 where
  always : ℕ → Figure
  ◌or◌ : ℕ → ℕ → Figure
  blank : Figure

-- one figure in a row, where two figures are `12 or 10 ∷` and a blank area is `blank ∷`
infixr 67 ◌│◌
infix 70 ◌or◌
abbrev ◌│◌ : ℕ → List Figure → List Figure
n │ fs = always n ∷ fs

-- columns 8 to E, the same in all rows, and column F
abbrev across : Figure → List Figure
across alone = 6 │ 6 │ 12 or 10 ∷ 12 or 10 ∷ 6 │ 12 or 10 ∷ 6 │ alone ∷ []

-- columns 0 to 7, then 8 to F; the upper nibble stands behind its row
unfoldable pub cycle_map : List (List Figure)
cycle_map =
    (6 │ 6 │ 6 │ 6 │ 10 │ 10 │ 10 │ 10 │ across blank)  -- 0
    ∷ (6 │ 6 │ 6 │ 6 │ 10 │ 10 │ 10 │ 10 │ across blank)  -- 1
    ∷ (6 │ 6 │ 6 │ 6 │ 10 │ 10 │ 10 │ 10 │ across blank)  -- 2
    ∷ (8 │ 6 │ 6 │ 6 │ 10 │ 10 │ 10 │ 10 │ across blank)  -- 3
    ∷ (8 │ 8 │ 6 │ 6 │ 10 │ 10 │ 10 │ 10 │ across blank)  -- 4
    ∷ (10 │ 10 │ 6 │ 6 │ 10 │ 10 │ 10 │ 10 │ across blank)  -- 5
    ∷ (6 │ 6 │ 6 │ 6 │ 10 │ 10 │ 10 │ 10 │ across blank)  -- 6
    ∷ (10 or 12 ∷ 12 or 14 ∷ 6 │ 6 │ 10 │ 10 │ 10 │ 10 │ across blank)  -- 7
    ∷ (10 │ 10 │ 12 │ 18 │ blank ∷ blank ∷ blank ∷ blank ∷ across (always 6))  -- 8
    ∷ (6 │ 6 │ 12 │ 18 │ blank ∷ blank ∷ blank ∷ blank ∷ across (always 6))  -- 9
    ∷ (10 │ 10 │ 6 │ 6 │ 10 │ 10 │ 10 │ 10 │ across (always 14))  -- A
    ∷ (6 │ 6 │ 6 │ 6 │ 10 │ 10 │ 10 │ 10 │ across (always 16))  -- B
    ∷ (6 │ 6 │ 12 │ 18 │ blank ∷ blank ∷ blank ∷ 10 │ across (always 6))  -- C
    ∷ (6 │ 6 │ 12 │ 18 │ 20 │ blank ∷ 20 │ 10 │ across (always 6))  -- D
    ∷ (6 │ 6 │ blank ∷ 6 │ 10 │ 10 │ 10 │ 10 │ across (always 6))  -- E
    ∷ (8 │ 8 │ blank ∷ 6 │ blank ∷ 10 │ blank ∷ blank ∷ across (always 6))  -- F
    ∷ []

-- a figure by its outcome: the first, or the second. A blank area costs nothing, as it is never executed.
abbrev pub figure : Figure → Bool → ℕ
figure (always n) first = n
figure (a or b) first = pick first a b
figure blank first = 0

-- the cycles of an opcode, by the outcome: the jump taken, or the stack internal, is the first
unfoldable pub cycles_of : ℕ → Bool → ℕ
cycles_of op first = figure (get_or (get_or cycle_map (upper op) []) (lower op) blank) first
