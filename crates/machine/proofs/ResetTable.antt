-- The places that reset writes, as the code has them in a table, one after the other.
use Rattle.std.proofs.Common.{◌≡◌, ℕ, ◌+◌, ◌<◌, List, [], ◌∷◌, length, get_or, drop, drop-cons, add-one}
use Rattle.machine.specs.State.{placed_in}
use Rattle.machine.specs.Start.{Place, placed_all, holding}

-- a place of the table, and those of a list of them
abbrev pub places_of : List (ℕ × ℕ) → List Place
places_of [] = []
places_of (p ∷ ps) = holding p.0 p.1 ∷ places_of ps

-- one place, and those that are left after it
pub one_more : (items : List (ℕ × ℕ)) (i : ℕ) (file : List ℕ) (d : ℕ × ℕ) → i < length items
    → placed_all (placed_in file (get_or items i d).0 (get_or items i d).1) (places_of (drop (i + 1) items)) ≡ placed_all file (places_of (drop i items))
one_more items i file d h = rw (add-one, drop-cons items i d)
