-- That the commands which read an open journal, and the one that ends it, mean the same journal.
use Rattle.std.specs.Prelude.{◌≡◌, ℕ, ◌≤◌, false, List, length, Some}
use Rattle.seat_journal.specs.declared.entry.Entry.{Entry}
use Rattle.seat_journal.specs.Text.{journal_text}
use Rattle.seat_nesting.specs.Nesting.{Ladders}
use Rattle.seat_recovery.specs.declared.rest.Rest.{Rest}
use Rattle.seat_recovery.specs.Recovering.{IsJournalOver, IsRecovered}
use Rattle.seat_recovery.specs.Rests.{Stands}
use Rattle.seat_desk.specs.AuditDesk.{most_lines}
use Rattle.seat_open.specs.Ending.{ended_text}
use Rattle.seat_open.specs.OpenAudits.{is_damaged, most_open_bytes}

-- these lines are the longest journal over this grid that the file begins with, and no damage stands behind them: `audit --open` sums them up,
-- and `recover` ends them
pub record IsUndamaged (grid : Ladders) (cap : ℕ) (file : List ℕ) (lines : List Entry) : Type 0 where
  pub recovered : IsRecovered grid cap file lines
  pub len : ℕ
  pub rest : Rest
  pub stands : Stands grid cap file lines len rest
  pub undamaged : is_damaged rest ≡ false

-- of such a file a question is asked of the text of that journal
abbrev pub EndedIsJournal : Type 0
EndedIsJournal = (grid : Ladders) (cap : ℕ) (file : List ℕ) (lines : List Entry) → cap ≤ most_lines
    → length file ≤ most_open_bytes → IsUndamaged grid cap file lines → ended_text file ≡ Some (journal_text lines)

-- and where it is asked of the text of a journal over the grid, the file is such a one, with these lines
abbrev pub JournalIsFound : Type 0
JournalIsFound = (grid : Ladders) (cap : ℕ) (file : List ℕ) (lines : List Entry) → cap ≤ most_lines
    → length file ≤ most_open_bytes → IsJournalOver grid cap lines → ended_text file ≡ Some (journal_text lines) → IsUndamaged grid cap file lines
