-- What holds after a journal.
use Rattle.std.specs.Prelude.{◌≤◌, ℕ, List, length}
use Rattle.seat_nesting.specs.Nesting.{Ladders}
use Rattle.seat_journal.specs.Text.{IsJournalText}
use Rattle.seat_journal.specs.declared.entry.Entry.{Entry}
use Rattle.seat_rules.specs.Journal.{IsLegal}
use Rattle.seat_desk.specs.AuditDesk.{most_lines}

-- the bytes are the text of a legal history over these limits, of as many lines as a journal has at most, and of its lines this holds
pub record HoldsAfter (Holds : List Entry → Type 0) (grid : Ladders) (journal : List ℕ) : Type 0 where
  pub entries : List Entry
  pub is_text : IsJournalText journal entries
  pub legal : IsLegal grid entries
  pub few : length entries ≤ most_lines
  pub holds : Holds entries
