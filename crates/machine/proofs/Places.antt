-- The places of the register file: what is placed is held, the other places stay, the last that is placed counts. Only these laws look
-- into the layout.
use mathlib.Core.Path.{◌≡◌, ap, ◌∙◌}
use mathlib.Core.List.{List}
use mathlib.Core.Logic.{◌≢◌}
use Prim.Native.Nat.{ℕ, ◌<◌}
use native.Mathlib.Decide.{ℕ_discrete}
use lib.ListN.{length, length-set}
use lib.Seq.{get_or-set_same, get_or-set_other, set-set, set_comm, set-get_or}
use Rattle.machine.specs.State.{held_in, placed_in}

pub place_long : (l : List ℕ) (a v : ℕ) → length (placed_in l a v) ≡ length l
unfolding placed_in
place_long l a v = length-set l a v

pub held_same : (l : List ℕ) (a v : ℕ) → length l ≡ 256 → a < 256 → held_in (placed_in l a v) a ≡ v
unfolding held_in placed_in
held_same l a v e h = get_or-set_same l a v 0 (rw e h)

pub held_other : (l : List ℕ) (a b v : ℕ) → b ≢ a → held_in (placed_in l a v) b ≡ held_in l b
unfolding held_in placed_in
held_other l a b v n = get_or-set_other l a b v 0 n

pub place_again : (l : List ℕ) (a v w : ℕ) → placed_in (placed_in l a v) a w ≡ placed_in l a w
unfolding placed_in
place_again l a v w = set-set l a v w

pub place_swap : (l : List ℕ) (a b v w : ℕ) → a ≢ b → placed_in (placed_in l a v) b w ≡ placed_in (placed_in l b w) a v
unfolding placed_in
place_swap l a b v w n = set_comm l a b v w n

pub place_own : (l : List ℕ) (a : ℕ) → placed_in l a (held_in l a) ≡ l
unfolding held_in placed_in
place_own l a = set-get_or l a 0

-- two places placed twice
pub places_again : (l : List ℕ) (a b v w x y : ℕ) → b ≢ a
    → placed_in (placed_in (placed_in (placed_in l a v) b w) a x) b y ≡ placed_in (placed_in l a x) b y
places_again l a b v w x y n =
    ap (λ (k : List ℕ). placed_in k b y) (place_swap (placed_in l a v) b a w x n)
    ∙ place_again (placed_in (placed_in l a v) a x) b w y
    ∙ ap (λ (k : List ℕ). placed_in k b y) (place_again l a v x)

-- what holds of every other place and what it holds, and of what is placed, holds after
pub each_placed : (P : ℕ → ℕ → Type 0) (l : List ℕ) (a v : ℕ) → length l ≡ 256 → a < 256 → P a v → ((b : ℕ) → b ≢ a → P b (held_in l b)) → (b : ℕ)
    → P b (held_in (placed_in l a v) b)
each_placed P l a v e h p all b = go (ℕ_discrete b a)
  where
    go : Dec (b ≡ a) → P b (held_in (placed_in l a v) b)
    go (yes own) = rw (own, held_same l a v e h) p
    go (no other) = rw (held_other l a b v other) (all b other)
