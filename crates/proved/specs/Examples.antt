-- 01's proved examples, as 02 corrects them, and two of 02, C-13, one list: each is a test on the definitions, from the bytes of an
-- instruction, a step or a span of a machine to what is left.
use Rattle.std.specs.Prelude.{ℕ, Bool, true, ◌&&◌, List, [], ◌∷◌, ◌++◌, eqb, replicate}
use Rattle.machine.specs.Names.{T0, PRE0, IPR, IRQ, IMR, FLAGS}
use Rattle.machine.specs.State.{whole, core_of, held, placed, with_pc}
use Rattle.machine.specs.Clock.{counting_at, write_tmr, span_of}
use Rattle.machine.specs.Start.{default_of, full_timer}
use Rattle.machine.specs.declared.Machine.{Machine}
use Rattle.machine.specs.declared.Pins.{Pins}
use Rattle.execute.specs.Execute.{Execution, execute_of}
use Rattle.step.specs.Step.{Progress, step_of}

-- a new machine at a program counter, with v in R5; RP is 0, so R5 is working register 5
abbrev pub machine_at : ℕ → ℕ → Machine
machine_at pc v = placed (with_pc default_of pc) 0x05 v

abbrev pub pins : Pins
pins = record { port0 = 0xFF; port1 = 0xFF; port2 = 0xFF; port3 = 0xFF }

-- its instruction, of a program with no data memory
abbrev pub executed : List ℕ → Machine → Execution
executed image m = execute_of pins image [] m

-- the machine after the instruction of these bytes, at 0000, with v in R5 and f in FLAGS before it
abbrev pub after : List ℕ → ℕ → ℕ → Machine
after bytes v f = (executed bytes (placed (machine_at 0x0000 v) FLAGS f)).machine

-- it has this in R5 and this in FLAGS
abbrev pub leaves : Machine → ℕ → ℕ → Bool
leaves m value flags = eqb (held m 0x05) value && eqb (held m FLAGS) flags

-- DJNZ R5 on v, with a displacement of 10 (hexadecimal), leaves this in R5 and costs so much
abbrev pub djnz : ℕ → ℕ → ℕ → Bool
djnz v left cycles =
    let x = executed (0x5A ∷ 0x10 ∷ []) (machine_at 0x0000 v) in
    eqb (held x.machine 0x05) left && eqb x.cycles cycles

-- a machine that has executed EI (02, C-13), at 0001
abbrev pub released : Machine
released = (executed (0x9F ∷ []) (machine_at 0x0000 0)).machine

-- the same with these bytes in IPR, IMR and IRQ; and its step, of a program of NOPs whose vector at 000A, alone, holds 1234
abbrev pub requesting : ℕ → ℕ → ℕ → Machine
requesting ipr imr irq = placed (placed (placed released IPR ipr) IMR imr) IRQ irq

abbrev pub stepped : Machine → Progress
stepped m = step_of pins (replicate 10 0xFF ++ (0x12 ∷ 0x34 ∷ replicate 4 0xFF)) [] m

-- a new machine at a divider, with these bytes in PRE0 and T0, and a fresh load: 03 written to TMR loads T0 and enables it
abbrev pub divider_at : ℕ → Machine
divider_at divider = whole default_of.regs (counting_at (core_of default_of) divider full_timer full_timer true)

abbrev pub fresh_load : ℕ → ℕ → ℕ → Machine
fresh_load divider pre0 t0 = write_tmr (placed (placed (divider_at divider) PRE0 pre0) T0 t0) 0x03

-- T0's ends in n of its cycles
unfoldable pub ends_in : ℕ → ℕ → ℕ → ℕ → ℕ
ends_in divider pre0 t0 n = (span_of n (fresh_load divider pre0 t0)).ends0

-- every test holds
abbrev pub all : List Bool → Bool
all [] = true
all (b ∷ bs) = b && all bs

-- Of the FLAGS byte before (the third argument of `after`), each flag that the page affects is the opposite of what it becomes, but for C
-- before DA, which 01 gives. PRE0 0D is P 3, repeating; 01 is P 64, repeating; T0 00 is N 256.
unfoldable pub examples : List Bool
examples =
    -- 44 + 11 = 55, flags C Z S V D H clear: ADD R5,#%11
    leaves (after (0x06 ∷ 0x05 ∷ 0x11 ∷ []) 0x44 0xFC) 0x55 0x00
    -- 7B AND C3 = 43: AND R5,#%C3
    ∷ leaves (after (0x56 ∷ 0x05 ∷ 0xC3 ∷ []) 0x7B 0x70) 0x43 0x00
    -- 00 - 01 = FF with C, S, D, H set and Z, V clear: SUB R5,#%01
    ∷ leaves (after (0x26 ∷ 0x05 ∷ 0x01 ∷ []) 0x00 0x50) 0xFF 0xAC
    -- INC 7F = 80 with S, V set: INC R5
    ∷ leaves (after (0x5E ∷ []) 0x7F 0x40) 0x80 0x30
    -- SRA 81 = C0 with C, S set: SRA R5
    ∷ leaves (after (0xD0 ∷ 0x05 ∷ []) 0x81 0x50) 0xC0 0xA0
    -- RL 40 = 80 with S, V set and C clear: RL R5
    ∷ leaves (after (0x90 ∷ 0x05 ∷ []) 0x40 0xC0) 0x80 0x30
    -- DA of 3C (C, D, H clear) = 42: DA R5
    ∷ leaves (after (0x40 ∷ 0x05 ∷ []) 0x3C 0x60) 0x42 0x00
    -- DECW 0000 = FFFF: DECW RR4
    ∷ leaves (after (0x80 ∷ 0x04 ∷ []) 0x00 0x50) 0xFF 0x20
    ∷ eqb (held (after (0x80 ∷ 0x04 ∷ []) 0x00 0x50) 0x04) 0xFF
    -- DJNZ on 1 leaves 0, 10 cycles; on 0 leaves FF, 12 cycles
    ∷ djnz 1 0x00 10
    ∷ djnz 0 0xFF 12
    -- bytes 8B FE at 0010 jump to 0010
    ∷ eqb (executed (replicate 16 0xFF ++ (0x8B ∷ 0xFE ∷ [])) (machine_at 0x0010 0)).machine.pc 0x0010
    -- IPR 08, IMR BF, IRQ 3F takes vector 000A, on a machine that has executed EI
    ∷ eqb (stepped (requesting 0x08 0xBF 0x3F)).machine.pc 0x1234
    -- 02, C-13: a store to FA before EI is dropped, and after it stays: LD %FA,#%3F
    ∷ eqb (held (executed (0xE6 ∷ 0xFA ∷ 0x3F ∷ []) (machine_at 0x0000 0)).machine IRQ) 0x00
    ∷ eqb (held (executed (0x9F ∷ 0xE6 ∷ 0xFA ∷ 0x3F ∷ []) released).machine IRQ) 0x3F
    -- P 3, N 2, fresh load, divider 0: 23 cycles no end, 24 one, 48 two
    ∷ eqb (ends_in 0 0x0D 0x02 23) 0
    ∷ eqb (ends_in 0 0x0D 0x02 24) 1
    ∷ eqb (ends_in 0 0x0D 0x02 48) 2
    -- P 64, N 256: 65,535 none, 65,536 one
    ∷ eqb (ends_in 0 0x01 0x00 65535) 0
    ∷ eqb (ends_in 0 0x01 0x00 65536) 1
    ∷ []
