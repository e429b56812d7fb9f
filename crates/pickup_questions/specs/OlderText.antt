-- The lines of an older journal, which are read and not replayed.
use Rattle.std.specs.Prelude.{◌≤◌, ℕ, List, length}
use Rattle.seat_journal.specs.Text.{IsJournalText}
use Rattle.seat_journal.specs.Reading.{IsFirstFault}
use Rattle.seat_journal.specs.declared.entry.Entry.{Entry}
use Rattle.seat_desk.specs.AuditDesk.{most_journal_bytes}
use Rattle.seat_desk.specs.declared.fault.DeskFault.{DeskFault}
use Rattle.seat_desk.specs.declared.fault.DeskFault.TheVariants.{Journal}

-- the bytes are not too large, and the text of these lines
pub record IsOlderText (bytes : List ℕ) (older : List Entry) : Type 0 where
  pub within : length bytes ≤ most_journal_bytes
  pub is_text : IsJournalText bytes older

-- the fault is the first of the text
abbrev pub IsFirstOf : List ℕ → DeskFault → Type 0
IsFirstOf bytes (Journal fault) = IsFirstFault bytes fault.line fault.kind
IsFirstOf bytes _ = ⊥

-- the bytes are not too large, and the text of no journal
pub record IsRefusedOlder (bytes : List ℕ) (fault : DeskFault) : Type 0 where
  pub within : length bytes ≤ most_journal_bytes
  pub first : IsFirstOf bytes fault
