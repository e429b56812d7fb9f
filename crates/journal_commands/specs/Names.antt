-- The names of several journals: the first, and the others.
use Rattle.std.specs.Prelude.{ℕ, ◌-◌, nat_le, if◌then◌else◌, List, [], ◌∷◌}

-- the one at a place, counted from 1
abbrev pub name_at : List ℕ → List (List ℕ) → ℕ → List ℕ
name_at first [] place = first
name_at first (next ∷ later) place = if nat_le place 1 then first else name_at next later (place - 1)

abbrev pub last_of : List ℕ → List (List ℕ) → List ℕ
last_of first [] = first
last_of first (next ∷ later) = last_of next later
