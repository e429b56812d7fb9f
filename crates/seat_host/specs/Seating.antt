-- What the manager and the sessions are seated with, one after another.
use Rattle.std.specs.Prelude.{◌≡◌, ℕ, List, All}
use Rattle.logbook.specs.Pages.{Book}
use Rattle.seat_nesting.specs.Nesting.{Ladders}
use Rattle.seat_journal.specs.declared.entry.Entry.{Entry}
use Rattle.seat_display.specs.Faces.{Viewed, opened}
use Rattle.seat_host.specs.Lawful.{CountsFirst}

-- before the one of this number is seated: the lines of those below it are counted, its share is the next one, and no viewer that is left has seen anything
pub record Seating (book : Book) (grid : Ladders) (lines : List Entry) (number : ℕ) (line_counts : List ℕ) (next : ℕ)
    (viewers : List Viewed) : Type 0 where
  pub counts : CountsFirst number lines line_counts
  pub next_is : next ≡ number
  pub new : All (λ v. v ≡ opened book grid) viewers
