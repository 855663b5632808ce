-- The stack (01 "Instructions"; 004 3.6 and 6.4).
use Rattle.std.specs.Prelude.{Bool, List, [], ◌∷◌, ℕ, ◌+◌, ◌-◌, ◌%◌, length}
use Rattle.word.specs.Choose.{pick}
use Rattle.word.specs.Fields.{is_set, word_of, high_byte, low_byte}
use Rattle.word.specs.Words.{plus}
use Rattle.machine.specs.Names.{P01M, SPH, SPL}
use Rattle.machine.specs.State.{held, placed}
use Rattle.machine.specs.Registers.{read_reg, write_reg}
use Rattle.machine.specs.Memory.{data_byte, list_of}
use Rattle.machine.specs.declared.Machine.{Machine}
use Rattle.machine.specs.declared.Pins.{Pins}
use Rattle.machine.specs.declared.Bytes.{Bytes}
use Rattle.machine.specs.Memory.{Stores}
use Rattle.std.specs.Prelude.{Some, None}

-- "P01M bit 2 set means internal"
abbrev pub is_internal : Machine → Bool
is_internal m = is_set 2 (held m P01M)

-- the stack pointer: SPL alone internally; externally the pair, SPH high
abbrev pub spl : Machine → ℕ
spl m = held m SPL

unfoldable pub sp_of : Machine → ℕ
sp_of m = word_of (held m SPH) (spl m)

unfoldable pub sp_set : Machine → ℕ → Machine
sp_set m sp = placed (placed m SPH (high_byte sp)) SPL (low_byte sp)

-- a machine, and what is to be stored in data memory
pub record Stacked : Type 0 where
  pub machine : Machine
  pub stores : Stores

-- "Register stores by the stack follow the register rules": bytes upward in address order, modulo 256
abbrev pub written_from : Machine → ℕ → List ℕ → Machine
written_from m a [] = m
written_from m a (v ∷ vs) = written_from (write_reg m a v) ((a + 1) % 256) vs

-- bytes pushed, the lowest first. "SP is written first, then bytes upward in address order." Internally "SPL alone counts modulo 256 and R254
-- stays. External uses the pair modulo 65,536."
unfoldable pub pushed_internal : Machine → Bytes → Stacked
pushed_internal m b =
    let sp = (spl m + (256 - length (list_of b))) % 256 in
    record { machine = written_from (placed m SPL sp) sp (list_of b); stores = None }

unfoldable pub pushed_external : Machine → Bytes → Stacked
pushed_external m b =
    let sp = plus (sp_of m) (65536 - length (list_of b)) in
    record { machine = sp_set m sp; stores = Some (sp, b) }

-- "Stack, its kind taken before anything is written"
unfoldable pub pushed : Machine → Bytes → Stacked
pushed m b = pick (is_internal m) (pushed_internal m b) (pushed_external m b)

-- "RET, IRET and POP read, write SP, then load the destination." What they read, the byte i above the top of the stack; internal, it is what
-- that register reads
unfoldable pub stack_byte : Pins → Machine → List ℕ → ℕ → ℕ
stack_byte p m mem i =
    pick (is_internal m) (read_reg p m ((spl m + i) % 256)) (data_byte m.kind mem (plus (sp_of m) i))

-- and SP as they write it, for n bytes read
unfoldable pub raised : Machine → ℕ → Machine
raised m n = pick (is_internal m) (placed m SPL ((spl m + n) % 256)) (sp_set m (plus (sp_of m) n))
