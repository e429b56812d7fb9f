-- What is kept of the lines that the calls of a session were given.
use Rattle.std.specs.Prelude.{◌≡◌, ℕ, Bool, Option, Some, List, [], ◌∷◌, ◌++◌}
use Rattle.seat_journal.specs.declared.entry.Entry.{Entry}

-- the number of each line, in order, the last line, and whether there is memory for one more
pub record Kept : Type 0 where
  pub numbers : List ℕ
  pub last : Option Entry
  pub spare : Bool

-- the same lines
pub record KeepsSame (old new : Kept) : Type 0 where
  pub numbers : new.numbers ≡ old.numbers
  pub last : new.last ≡ old.last

-- one line more
pub record KeepsLine (old new : Kept) (line : Entry) : Type 0 where
  pub numbers : new.numbers ≡ old.numbers ++ line.number ∷ []
  pub last : new.last ≡ Some line
