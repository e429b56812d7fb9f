-- Lines that end with LF or the end of the bytes.
use Rattle.std.specs.Prelude.{ℕ, ◌==◌, List, [], ◌∷◌, if◌then◌else◌}

-- the byte, ahead of the first line
abbrev pub ahead : ℕ → List (List ℕ) → List (List ℕ)
ahead c [] = (c ∷ []) ∷ []
ahead c (line ∷ lines) = (c ∷ line) ∷ lines

-- the lines of a text; a final LF is no line
abbrev pub lines_of : List ℕ → List (List ℕ)
lines_of [] = []
lines_of (c ∷ rest) = (if c == 10 then [] ∷ lines_of rest else ahead c (lines_of rest))
