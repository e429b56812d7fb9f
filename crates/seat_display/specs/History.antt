-- The rule of the history, and what each of its steps tells.
use Rattle.std.specs.Prelude.{ℕ, ◌≡◌, ◌==◌, true, List, [], ◌∷◌, ◌++◌, length, MatchBool}
use Rattle.logbook.specs.Pages.{Cell, Step, View, Book, Named}
use Rattle.seat_journal.specs.declared.entry.Entry.{Entry}
use Rattle.seat_journal.specs.declared.entry.Work.TheVariants.{Limit}

-- the first word is the length of the history
pub record IsCounted (cells : List Cell) (log : List Entry) : Type 0 where
  pub words : cells ≡ (length log, true) ∷ (0, true) ∷ []

-- the word with the length
abbrev pub head_of : Book → Named
head_of b = record { tracked = true; key = 0; book = b }

-- an entry for those who ask nothing
abbrev pub blank : Entry
blank = record {
  number = 0;
  session = 0;
  call = 0;
  work = Limit (record { flight = 0; leg = 0; class = 0; limit = 0; wait = 0 });
  reply = [];
  released = 0;
  advices = [];
}

-- the entries were added to all that had been seen, where the length found is the one that was expected
abbrev pub Adds : List Entry → Step Entry → View Entry ℕ → ℕ → View Entry ℕ → Type 0
Adds es s v found w = MatchBool (found == s.old) (w.0 ≡ v.0 ++ es) (Unit {0})

-- the history so far was seen, and its length found
abbrev pub Measured : Step Entry → View Entry ℕ → ℕ → View Entry ℕ → Type 0
Measured s v found w = length w.0 ≡ found
