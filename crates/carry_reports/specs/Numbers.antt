-- Which of several journals, whose lines stand one behind the other, has the line of a number, and its number there.
use Rattle.std.specs.Prelude.{ℕ, ◌+◌, ◌-◌, nat_le, if◌then◌else◌, List, [], ◌∷◌, ◌++◌, codes, decimal}

-- the place of the journal that has line n, counted from 1; each journal has so many lines
abbrev pub journal_of : List ℕ → ℕ → ℕ
journal_of [] n = 1
journal_of (count ∷ counts) n = (if nat_le n count then 1 else journal_of counts (n - count) + 1)

-- the number of that line in its own journal
abbrev pub number_in : List ℕ → ℕ → ℕ
number_in [] n = n
number_in (count ∷ counts) n = (if nat_le n count then n else number_in counts (n - count))

-- the number of a line, behind the place of its journal where there are several
abbrev pub number_text : List ℕ → ℕ → List ℕ
number_text [] n = decimal n
number_text (count ∷ counts) n =
    decimal (journal_of (count ∷ counts) n) ++ codes ":" ++ decimal (number_in (count ∷ counts) n)
