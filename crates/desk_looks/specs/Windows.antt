-- Flights that threads share, and what a viewer of the published table has seen.
use Rattle.std.specs.Prelude.{◌≡◌, ℕ, List}
use Rattle.logbook.specs.Pages.{Book}
use Rattle.airline_base.specs.Noting.{noted}
use Rattle.seat_journal.specs.declared.entry.Entry.{Entry}
use Rattle.seat_nesting.specs.Nesting.{Ladders}
use Rattle.ssim_flights.specs.declared.flight.Flight.{Flight}

-- dated flights, and the limits of their legs that a journal begins with
pub record Flown : Type 0 where
  pub flights : List Flight
  pub grid : Ladders

-- the lines that were seen, and how often nothing was
pub record Windowed : Type 0 where
  pub book : Book
  pub grid : Ladders
  pub front : List Entry
  pub refused : ℕ

-- nothing was seen
abbrev pub refused_once : Windowed → Windowed
refused_once w = record { book = w.book; grid = w.grid; front = w.front; refused = noted w.refused }

-- it is a window to the same table
pub record IsSameTable (old new : Windowed) : Type 0 where
  pub book_is : new.book ≡ old.book
  pub grid_is : new.grid ≡ old.grid
