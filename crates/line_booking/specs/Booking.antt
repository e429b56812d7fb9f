-- The published table beside the inventory, and one line more in both.
use Rattle.std.specs.Prelude.{◌≡◌, ℕ, ◌+◌, ◌<◌, [], ◌∷◌, ◌++◌, length}
use Rattle.seat_journal.specs.declared.entry.Work.{Work}
use Rattle.seat_journal.specs.declared.entry.Entry.{Entry}
use Rattle.seat_rules.specs.Inventory.{Inventory, HoldsWithinLimits}
use Rattle.seat_rules.specs.Journal.{IsNext, calls_of, next_line}
use Rattle.seat_display.specs.Faces.{Published}
use Rattle.line_booking.specs.Receipts.{Kept, KeepsLine}

-- what viewers find is the journal, over the same limits, and nothing is pending
pub record Shows (core : Inventory) (publisher : Published) : Type 0 where
  pub grid_is : publisher.grid ≡ core.grid
  pub visible : publisher.visible ≡ core.journal
  pub pending : publisher.pending ≡ []

-- the inventory took one line more, the next one of this session with this work, and its receipt was kept
pub record AddsLine (old new : Inventory) (session : ℕ) (work : Work) (receipts kept : Kept) : Type 0 where
  pub line : Entry
  pub is : line ≡ next_line old.grid old.journal session (calls_of old.journal session + 1) work
  pub next : IsNext old.grid old.journal line
  pub below : length old.journal < old.cap
  pub journal_is : new.journal ≡ old.journal ++ line ∷ []
  pub within : HoldsWithinLimits new.grid new.journal
  pub kept_is : KeepsLine receipts kept line
