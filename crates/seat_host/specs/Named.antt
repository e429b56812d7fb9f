-- What contracts see of the parts of a host.
use Rattle.std.specs.Prelude.{ℕ, List}
use Rattle.logbook.specs.Pages.{Book}
use Rattle.seat_nesting.specs.Nesting.{Ladders}
use Rattle.seat_journal.specs.declared.entry.Entry.{Entry}

pub record Named : Type 0 where
  pub grid : Ladders
  pub cap : ℕ
  pub book : Book
  pub sessions : ℕ
  pub names : List ℕ
  -- the lines that its journal begins with
  pub past : List Entry
