-- Which request is granted (01 "One step"; 004, 10.3 and 10.4; 002, R249 to R251).
use Rattle.std.specs.Prelude.{List, [], ◌∷◌, ◌++◌, ℕ, ◌+◌, ◌*◌, get_or}
use Rattle.std.specs.Int.Bits.{bit_and}
use Rattle.word.specs.Choose.{pick}
use Rattle.word.specs.Fields.{bit_of, is_set}
use Rattle.machine.specs.Names.{IPR, IRQ, IMR}
use Rattle.machine.specs.State.{held}
use Rattle.machine.specs.declared.Machine.{Machine}
use Rattle.std.specs.Prelude.{Option, Some, None}

-- IPR's groups of two requests, the higher first: "group A from 5, B from 2, C from 1". As 002 has it, IRQ5 > IRQ3 where bit 5 is 0,
-- IRQ2 > IRQ0 where bit 2 is, IRQ1 > IRQ4 where bit 1 is.
unfoldable pub group_a : ℕ → List ℕ
group_a ipr = pick (is_set 5 ipr) (3 ∷ 5 ∷ []) (5 ∷ 3 ∷ [])

unfoldable pub group_b : ℕ → List ℕ
group_b ipr = pick (is_set 2 ipr) (0 ∷ 2 ∷ []) (2 ∷ 0 ∷ [])

unfoldable pub group_c : ℕ → List ℕ
group_c ipr = pick (is_set 1 ipr) (4 ∷ 1 ∷ []) (1 ∷ 4 ∷ [])

-- "the group order read from bits 4, 3, 0". (004's Table 10-2 heads the middle column D2; its text has D3.)
abbrev pub group_order : ℕ → ℕ
group_order ipr = bit_of 4 ipr * 4 + bit_of 3 ipr * 2 + bit_of 0 ipr

-- three groups in the order of this number, as 002 lists them: "a reserved group order (000 or 111) grants nothing (HOUSE)"
unfoldable pub ordered : ℕ → List ℕ → List ℕ → List ℕ → List ℕ
ordered n a b c =
    get_or (
    -- 000
    []
    -- 001
    ∷ (c ++ a ++ b)
    -- 010
    ∷ (a ++ b ++ c)
    -- 011
    ∷ (a ++ c ++ b)
    -- 100
    ∷ (b ++ c ++ a)
    -- 101
    ∷ (c ++ b ++ a)
    -- 110
    ∷ (b ++ a ++ c)
    -- 111
    ∷ []
    -- the end of the list
    ∷ []
    ) n []

-- the requests by priority, the highest first
unfoldable pub priorities : ℕ → List ℕ
priorities ipr = ordered (group_order ipr) (group_a ipr) (group_b ipr) (group_c ipr)

-- the first of these whose bit is set in `standing`
unfoldable pub first_standing : List ℕ → ℕ → Option ℕ
first_standing [] standing = None
first_standing (n ∷ ns) standing = pick (is_set n standing) (Some n) (first_standing ns standing)

-- "A grant needs IMR bit 7, the request and its mask bit." Standing are requests whose mask bit is set too, and priority is among them: "the
-- highest priority level that is enabled" (004, 10.3).
unfoldable pub granted : ℕ → ℕ → ℕ → Option ℕ
granted irq imr ipr = pick (is_set 7 imr) (first_standing (priorities ipr) (bit_and irq imr)) None

unfoldable pub grant_of : Machine → Option ℕ
grant_of m = granted (held m IRQ) (held m IMR) (held m IPR)
