-- A place put into a machine that is known, and what no store moves.
use mathlib.Core.Path.{◌≡◌, ◌∙◌, refl}
use mathlib.Core.List.{List, [], ◌∷◌}
use Prim.Native.Nat.{ℕ, ◌+◌, ◌-◌, ◌*◌, ◌%◌}
use lib.Dec.{eqb, ltb}
use lib.ListN.{length}
use Rattle.word.specs.Fields.{upper, high_byte, low_byte}
use Rattle.word.specs.Words.{plus}
use Rattle.word.proofs.Computed.{by_test}
use Rattle.timers.specs.Clock.{written}
use Rattle.word.proofs.Iterate.{iter_keeps}
use Rattle.machine.specs.State.{placed, with_released, with_port, with_transmitter}
use Rattle.machine.specs.Clock.{moving_of, counts_at, moved_to, write_tmr, Ran, shown, cycle_of, span_of}
use Rattle.machine.specs.Serial.{write_sio}
use Rattle.machine.proofs.Sio.{sio_either}
use Rattle.machine.proofs.Held.{irq_either}
use Rattle.machine.specs.Registers.{is_hole, write_port, write_reg}
use Rattle.machine.specs.Addresses.{even_of, write_pair}
use Rattle.machine.specs.Memory.{list_of}
use Rattle.machine.specs.Stack.{Stacked, is_internal, spl, sp_of, sp_set, written_from, pushed_internal, pushed_external, pushed, raised}
use Rattle.machine.specs.declared.Machine.{Machine}
use Rattle.machine.specs.declared.Bytes.{Bytes}

-- n has what m has where no store moves it
pub record Keeps (m n : Machine) : Type 0 where
  pub pc_kept : n.pc ≡ m.pc
  pub divider_kept : n.divider ≡ m.divider
  pub last3_kept : n.last3 ≡ m.last3
  pub kind_kept : n.kind ≡ m.kind
  pub cost_kept : n.cost ≡ m.cost
  pub released_kept : n.released ≡ m.released

pub itself : (m : Machine) → Keeps m m
itself m = record { pc_kept = refl; divider_kept = refl; last3_kept = refl; kind_kept = refl; cost_kept = refl; released_kept = refl }

pub keeps_on : {m n o : Machine} → Keeps m n → Keeps n o → Keeps m o
keeps_on f g =
    record {
      pc_kept = g.pc_kept ∙ f.pc_kept;
      divider_kept = g.divider_kept ∙ f.divider_kept;
      last3_kept = g.last3_kept ∙ f.last3_kept;
      kind_kept = g.kind_kept ∙ f.kind_kept;
      cost_kept = g.cost_kept ∙ f.cost_kept;
      released_kept = g.released_kept ∙ f.released_kept;
    }

pub place_keeps : (m : Machine) (a v : ℕ) → Keeps m (placed m a v)
unfolding placed
place_keeps m a v = record { pc_kept = refl; divider_kept = refl; last3_kept = refl; kind_kept = refl; cost_kept = refl; released_kept = refl }

tmr_keeps : (m : Machine) (v : ℕ) → Keeps m (write_tmr m v)
unfolding write_tmr counts_at placed written moving_of
tmr_keeps m v = record { pc_kept = refl; divider_kept = refl; last3_kept = refl; kind_kept = refl; cost_kept = refl; released_kept = refl }

sio_keeps : (m : Machine) (v : ℕ) → Keeps m (write_sio m v)
unfolding with_transmitter with_port
sio_keeps m v =
    sio_either m v (Keeps m) (record { pc_kept = refl; divider_kept = refl; last3_kept = refl; kind_kept = refl; cost_kept = refl; released_kept = refl }) (itself m)

pub write_keeps : (m : Machine) (a v : ℕ) → Keeps m (write_reg m a v)
unfolding write_reg write_port
write_keeps m a v =
    by_test (Keeps m) (ltb a 0x04) (λ t. place_keeps m a _) (λ t.
    by_test (Keeps m) (is_hole a) (λ u. by_test (Keeps m) (eqb a 0xF0) (λ e. sio_keeps m v) (λ e. itself m)) (λ u.
    by_test (Keeps m) (eqb a 0xF1) (λ e. tmr_keeps m v) (λ u.
    by_test (Keeps m) (eqb a 0xFA) (λ e. irq_either m v (Keeps m) (λ released. place_keeps m 0xFA (v % 64)) (itself m)) (λ u.
    by_test (Keeps m) (eqb a 0xFD) (λ e. place_keeps m a (upper v * 16)) (λ u. place_keeps m a v)))))

pub pair_keeps : (m : Machine) (a w : ℕ) → Keeps m (write_pair m a w)
unfolding write_pair
pair_keeps m a w = keeps_on (write_keeps m (even_of a) (high_byte w)) (write_keeps (write_reg m (even_of a) (high_byte w)) (even_of a + 1) (low_byte w))

from_keeps : (m : Machine) (a : ℕ) (vs : List ℕ) → Keeps m (written_from m a vs)
from_keeps m a [] = itself m
from_keeps m a (v ∷ vs) = keeps_on (write_keeps m a v) (from_keeps (write_reg m a v) ((a + 1) % 256) vs)

pub push_keeps : (m : Machine) (b : Bytes) → Keeps m (pushed m b).machine
unfolding pushed pushed_internal pushed_external sp_set
push_keeps m b =
    by_test (λ (s : Stacked). Keeps m s.machine) (is_internal m)
    (λ t. keeps_on (place_keeps m 0xFF _) (from_keeps (placed m 0xFF ((spl m + (256 - length (list_of b))) % 256)) ((spl m + (256 - length (list_of b))) % 256) (list_of b)))
    (λ t. keeps_on (place_keeps m 0xFE _) (place_keeps (placed m 0xFE (high_byte (plus (sp_of m) (65536 - length (list_of b))))) 0xFF _))

pub raise_keeps : (m : Machine) (n : ℕ) → Keeps m (raised m n)
unfolding raised sp_set
raise_keeps m n =
    by_test (Keeps m) (is_internal m)
    (λ t. place_keeps m 0xFF _)
    (λ t. keeps_on (place_keeps m 0xFE _) (place_keeps (placed m 0xFE (high_byte (plus (sp_of m) n))) 0xFF _))

-- cycles keep the last pins
pub span_last3 : (n : ℕ) (m : Machine) → (span_of n m).machine.last3 ≡ m.last3
unfolding span_of cycle_of shown moved_to placed counts_at with_released with_port
span_last3 n m =
    iter_keeps cycle_of (λ (r : Ran). r.machine.last3 ≡ m.last3) (λ r e. e) n (record { machine = m; ends0 = 0; ends1 = 0 }) refl
