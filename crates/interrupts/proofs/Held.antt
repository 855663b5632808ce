-- Edges and a grant before the first EI (02, C-13): compared pins and an entry release nothing, and held, IRQ stays zero.
use mathlib.Core.Path.{◌≡◌, ◌∙◌}
use mathlib.Core.Bool.{Bool, not, false, ◌&&◌}
use mathlib.Core.List.{List}
use Prim.Native.Nat.{ℕ, ◌<◌}
use Rattle.word.specs.Fields.{high_byte, low_byte}
use Rattle.word.proofs.Computed.{by_test}
use Rattle.timers.specs.Requests.{latched_if}
use Rattle.timers.specs.Control.{setting_of}
use Rattle.timers.specs.declared.RequestRegister.{RequestRegister}
use Rattle.timers.specs.declared.Spanned.{Spanned}
use Rattle.timers.proofs.Latched.{fits_zero}
use Rattle.timers.proofs.Held.{Holds, holds_on, if_holds, edge_holds}
use Rattle.machine.specs.Names.{IRQ}
use Rattle.machine.specs.State.{held, placed, with_pc, with_last3, with_released, with_port}
use Rattle.machine.specs.Clock.{control_of, moving_of, counts_at, moved_to}
use Rattle.machine.specs.Serial.{port_mode}
use Rattle.machine.specs.Legal.{Legal}
use Rattle.machine.specs.declared.Machine.{Machine}
use Rattle.machine.specs.declared.Bytes.TheVariants.{Three}
use Rattle.machine.proofs.Whole.{push_keeps}
use Rattle.deeds.specs.Modes.{flags_of}
use Rattle.execute.specs.Doing.{interrupts_to}
use Rattle.interrupts.specs.Edges.{fell, latched_by, with_edges, moved_by_edges, compared_of}
use Rattle.interrupts.specs.Entry.{acknowledged, entered_of}
use Rattle.interrupts.proofs.Legal.{compared_legal}

-- what the four edges ask for
edges_hold : (on : Bool) (last given : ℕ) (r : RequestRegister) → Holds r (latched_by on last given r)
unfolding latched_by
edges_hold on last given r =
    let r₀ = latched_if (fell 2 last given) 0 r in
    let r₁ = latched_if (fell 3 last given) 1 r₀ in
    let r₂ = latched_if (fell 1 last given) 2 r₁ in
    holds_on (if_holds (fell 2 last given) 0 r)
    (holds_on (if_holds (fell 3 last given) 1 r₀) (holds_on (if_holds (fell 1 last given) 2 r₁) (if_holds (fell 0 last given && not on) 3 r₂)))

-- and with the end that the edge of P31 may bring
moved_holds : (m : Machine) (given : ℕ) → Holds (moving_of m).lines.requests (moved_by_edges m given).moving.lines.requests
unfolding moved_by_edges
moved_holds m given =
    let asked = edges_hold (port_mode m).on m.last3 given (moving_of m).lines.requests in
    by_test (λ (x : Spanned). Holds (moving_of m).lines.requests x.moving.lines.requests) (fell 1 m.last3 given)
    (λ t. holds_on asked (edge_holds (setting_of (control_of m)) (with_edges (port_mode m).on m.last3 given (moving_of m))))
    (λ t. asked)

pub compare_releases_none : (m : Machine) (given : ℕ) → (compared_of m given).machine.released ≡ m.released
unfolding compared_of with_last3 moved_to placed counts_at with_released with_port moving_of
compare_releases_none m given = (moved_holds m given).mark_stays

pub compare_latches_none : (m : Machine) (given : ℕ) → Legal m → given < 256 → m.released ≡ false → held (compared_of m given).machine IRQ ≡ 0
unfolding moving_of
compare_latches_none m given l h held-yet =
    let after = (compared_of m given).machine in
    fits_zero (moving_of after).lines.requests (compared_legal given l h).moving.requests_fit_lem (compare_releases_none m given ∙ held-yet)

pub entry_releases_none : (m : Machine) (image : List ℕ) (n : ℕ) → (entered_of image m n).machine.released ≡ m.released
unfolding entered_of acknowledged interrupts_to placed with_pc
entry_releases_none m image n = (push_keeps m (Three (flags_of m) (high_byte m.pc) (low_byte m.pc))).released_kept
