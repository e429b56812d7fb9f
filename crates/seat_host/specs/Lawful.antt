-- What holds of the inventory, the counts of lines and the publisher whenever the lock is free.
use Rattle.std.specs.Prelude.{◌≡◌, ℕ, ◌<◌, ◌≤◌, List, length, slice_index}
use Rattle.logbook.specs.Pages.{Book}
use Rattle.seat_nesting.specs.Nesting.{Ladders}
use Rattle.seat_journal.specs.declared.entry.Entry.{Entry}
use Rattle.seat_rules.specs.Inventory.{Inventory}
use Rattle.seat_rules.specs.Journal.{IsLegal}
use Rattle.seat_display.specs.Faces.{Published}
use Rattle.line_booking.specs.Booking.{Shows}
use Rattle.seat_rules.specs.Histories.{of_session, OnlyFirst}

-- the journal beside the counts of lines of n sessions
pub record IsTied (grid : Ladders) (cap n : ℕ) (line_counts : List ℕ) (journal : List Entry) : Type 0 where
  -- there are at most 8 sessions beside the manager, which is number 0, and a count at each number up to 8
  pub wide : length line_counts ≡ 9
  pub few : n < 9
  -- the journal is a legal history over the limits, of at most cap lines
  pub legal : IsLegal grid journal
  pub capped : length journal ≤ cap
  pub small : cap ≤ 999999
  -- each count is of its session's lines
  pub counts : (s : ℕ) → s < 9 → slice_index line_counts s ≡ length (of_session s journal)
  -- no session but the first n has any
  pub only : OnlyFirst n journal

-- of nine counts, the first n are of their sessions' lines, and the others are 0
pub record CountsFirst (n : ℕ) (journal : List Entry) (line_counts : List ℕ) : Type 0 where
  pub wide : length line_counts ≡ 9
  pub own : (s : ℕ) → s < n → slice_index line_counts s ≡ length (of_session s journal)
  pub none : (s : ℕ) → n ≤ s → s < 9 → slice_index line_counts s ≡ 0

pub record LawfulUnderLock (grid : Ladders) (cap : ℕ) (book : Book) (n : ℕ) (core : Inventory) (line_counts : List ℕ)
    (publisher : Published) (opened : ℕ) : Type 0 where
  -- the inventory is over the host's limits, and takes cap lines
  pub grid_is : core.grid ≡ grid
  pub cap_is : core.cap ≡ cap
  -- the host's number of sessions was opened
  pub opened_is : opened ≡ n
  -- the display is the host's, and what it shows is the journal
  pub book_is : publisher.book ≡ book
  pub shown : Shows core publisher
  -- the journal is legal, and each count is of its session's lines
  pub tied : IsTied grid cap n line_counts core.journal
