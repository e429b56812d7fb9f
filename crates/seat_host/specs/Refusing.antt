-- What the lock held at a call that gave no line.
use Rattle.std.specs.Prelude.{◌≡◌, ℕ, ◌<◌, List, length}
use Rattle.logbook.specs.Pages.{Book}
use Rattle.seat_nesting.specs.Nesting.{Ladders}
use Rattle.seat_journal.specs.declared.entry.Entry.{Entry}
use Rattle.seat_rules.specs.Prefixes.{Begins}
use Rattle.seat_rules.specs.Journal.{IsLegal}
use Rattle.line_booking.specs.declared.booking.BookFault.TheVariants.{JournalFull, Memory}
use Rattle.seat_host.specs.declared.under_lock.Refusal.{Refusal}

-- What the lock held was this host's journal, a legal history, which begins with what the session has seen. It was full where the fault says so, and at want of memory it had a line left
pub record IsDue (grid : Ladders) (book : Book) (cap : ℕ) (front : List Entry) (refusal : Refusal) : Type 0 where
  pub book_is : refusal.held.book ≡ book
  pub legal : IsLegal grid refusal.held.lines
  pub begins : Begins front refusal.held.lines
  pub full : refusal.fault ≡ JournalFull → length refusal.held.lines ≡ cap
  pub room : refusal.fault ≡ Memory → length refusal.held.lines < cap
