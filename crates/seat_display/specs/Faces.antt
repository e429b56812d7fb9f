-- What contracts see of a publisher, a viewer and a note.
use Rattle.std.specs.Prelude.{List, []}
use Rattle.logbook.specs.Pages.{Book}
use Rattle.seat_nesting.specs.Nesting.{Ladders}
use Rattle.seat_journal.specs.declared.entry.Entry.{Entry}

-- `visible` is what viewers find, and `pending` what is appended behind it
pub record Published : Type 0 where
  pub book : Book
  pub grid : Ladders
  pub visible : List Entry
  pub pending : List Entry

-- `front` is what the viewer has seen
pub record Viewed : Type 0 where
  pub book : Book
  pub grid : Ladders
  pub front : List Entry

-- what was visible at some moment
pub record Note : Type 0 where
  pub book : Book
  pub lines : List Entry

-- a viewer that has seen these lines
abbrev pub viewed : Book → Ladders → List Entry → Viewed
viewed b g front = record { book = b; grid = g; front = front }

-- a viewer that has seen nothing
abbrev pub opened : Book → Ladders → Viewed
opened b g = record { book = b; grid = g; front = [] }
