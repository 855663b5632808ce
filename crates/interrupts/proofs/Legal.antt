-- A legal machine stays legal through compared pins and a grant.
use mathlib.Core.Path.{◌≡◌}
use mathlib.Core.Bool.{false}
use mathlib.Core.List.{List}
use Prim.Native.Nat.{ℕ, ◌+◌, ◌-◌, ◌*◌, ◌^◌, ◌≤◌, ◌<◌}
use native.Mathlib.Omega.{arith}
use lib.Bits.{bit_and, and_le_l}
use lib.Dec.{lit<}
use Rattle.word.specs.Fields.{high_byte, low_byte}
use Rattle.word.proofs.Computed.{by_test}
use Rattle.timers.specs.Control.{setting_of}
use Rattle.timers.specs.Clock.{LegalMoving}
use Rattle.timers.specs.declared.Spanned.{Spanned}
use Rattle.timers.proofs.Latched.{fits_irq, fewer_fit}
use Rattle.timers.proofs.Legal.{edge_legal}
use Rattle.timers.proofs.Theorems.{edge_within}
use Rattle.machine.specs.State.{held, placed, with_pc}
use Rattle.machine.specs.Clock.{control_of, moving_of}
use Rattle.machine.specs.Serial.{port_mode}
use Rattle.machine.specs.Legal.{Legal}
use Rattle.machine.specs.declared.Machine.{Machine}
use Rattle.machine.specs.declared.Bytes.TheVariants.{Three}
use Rattle.machine.proofs.Legal.{fits_may, placed_legal, pc_legal, last3_legal, moved_legal, setting_of_lem, pushed_legal, program_byte_lem}
use Rattle.machine.proofs.Whole.{push_keeps}
use Rattle.deeds.specs.Modes.{flags_of}
use Rattle.deeds.proofs.Fits.{AllRead}
use Rattle.execute.specs.Doing.{interrupts_to}
use Rattle.execute.proofs.Legal.{FitStores, interrupts_legal, pushed_fits}
use Rattle.interrupts.specs.Edges.{fell, moved_by_edges, compared_of}
use Rattle.interrupts.specs.Entry.{cleared, vector_of, acknowledged, entered_of}
use Rattle.interrupts.proofs.Latches.{edges_legal_moving}

edges_legal : {m : Machine} (given : ℕ) → Legal m → LegalMoving (moved_by_edges m given).moving
unfolding moved_by_edges
edges_legal {m} given l =
    let latched = edges_legal_moving (port_mode m).on m.last3 given l.moving in
    by_test (λ (x : Spanned). LegalMoving x.moving) (fell 1 m.last3 given)
    (λ t. edge_legal (setting_of (control_of m)) (setting_of_lem l) _ latched)
    (λ t. latched)

pub compared_legal : {m : Machine} (given : ℕ) → Legal m → given < 256 → Legal (compared_of m given).machine
unfolding compared_of
compared_legal {m} given l h = last3_legal given (moved_legal (moved_by_edges m given).moving l (edges_legal given l)) h

-- an edge ends T1's count once at most
pub compared_ends : (m : Machine) (given : ℕ) → (compared_of m given).ends1 ≤ 1
unfolding compared_of moved_by_edges
compared_ends m given =
    by_test (λ (x : Spanned). x.ends1 ≤ 1) (fell 1 m.last3 given) (λ t. (edge_within (setting_of (control_of m)) _).1) (λ t. omega arith)

flags_byte : {m : Machine} → Legal m → flags_of m < 256
flags_byte l = l.file.bytes 0xFC

-- a request entered
acknowledged_legal : {m : Machine} (image : List ℕ) (n : ℕ) → Legal m → AllRead image → Legal (acknowledged image n m)
unfolding acknowledged cleared vector_of moving_of
acknowledged_legal {m} image n l all =
    let r = (moving_of m).lines.requests in
    let fewer : bit_and (held m 0xFA) (255 - 2 ^ n) ≤ held m 0xFA = and_le_l (held m 0xFA) (255 - 2 ^ n) in
    let fits = fewer_fit r (bit_and (held m 0xFA) (255 - 2 ^ n)) l.moving.requests_fit_lem fewer in
    let byte = fits_irq r l.moving.requests_fit_lem in
    pc_legal _ (interrupts_legal false (placed_legal 0xFA _ l (lit< tt) (omega (arith, fewer, byte)) (fits_may m.released _ fits)))
    (omega (arith, program_byte_lem image (2 * n) all, program_byte_lem image (2 * n + 1) all))

pub entered_legal : {m : Machine} (image : List ℕ) (n : ℕ) → Legal m → AllRead image → Legal (entered_of image m n).machine
unfolding entered_of
entered_legal {m} image n l all =
    acknowledged_legal image n
    (pushed_legal (Three (flags_of m) (high_byte m.pc) (low_byte m.pc)) l (flags_byte l, (omega (arith, l.pc_word), (omega arith, tt)))) all

pub entered_fits : (m : Machine) (image : List ℕ) (n : ℕ) → Legal m → FitStores (entered_of image m n).stores
unfolding entered_of
entered_fits m image n l =
    pushed_fits m (Three (flags_of m) (high_byte m.pc) (low_byte m.pc)) (flags_byte l, (omega (arith, l.pc_word), (omega arith, tt)))

-- and the last pins stay
pub entered_leaves : (m : Machine) (image : List ℕ) (n : ℕ) → (entered_of image m n).machine.last3 ≡ m.last3
unfolding entered_of acknowledged interrupts_to placed with_pc
entered_leaves m image n = (push_keeps m (Three (flags_of m) (high_byte m.pc) (low_byte m.pc))).last3_kept
