-- A run that goes on from a journal without lines, as one does that goes on from no other.
use Rattle.std.specs.Prelude.{◌≡◌, ℕ, List, [], length, map, Option}
use Rattle.airimp_lines.specs.declared.requests.Request.{Request}
use Rattle.seat_nesting.specs.Nesting.{Ladders}
use Rattle.seat_journal.specs.declared.entry.Control.{Control}
use Rattle.seat_journal.specs.Text.{IsJournalText}
use Rattle.seat_journal.specs.declared.entry.Command.{Command}
use Rattle.seat_journal.specs.declared.entry.Entry.{Entry}
use Rattle.ssim_flights.specs.declared.flight.Flight.{Flight as Flown}
use Rattle.seat_rules.specs.Totals.{totals_of}
use Rattle.seat_rules.specs.Headline.{Headline}
use Rattle.seat_rules.specs.Histories.{by_session}
use Rattle.seat_desk.specs.AuditDesk.{most_lines}
use Rattle.seat_replies.specs.Requests.{commands_of}
use Rattle.seat_replies.specs.RunDesk.{AreReplies, IsRun, works_in, works_of}

-- the whole history is asked for: its lines of session 0 are the changes, in order, those of session 1 the first list, and so on, and the replies answer all of it
pub record IsFirst (grid : Ladders) (flights : List Flown) (changes : List Control) (scripts : List (List Request))
    (lists : List (List Command)) (history : List Entry) (receipts : List (List Entry)) (replies : List ℕ) : Type 0
  where
    pub headline : Headline grid most_lines (length lists) history receipts (totals_of history)
    pub asked : map works_in (by_session (length lists) history) ≡ works_of changes lists
    pub are_replies : AreReplies flights [] scripts history replies

-- so it is with every run behind a journal without lines, with as many sessions as scripts
abbrev pub RunsFromNoLines : Type 0
RunsFromNoLines =
    (set limits : List ℕ) (first days today : ℕ) (after : List ℕ) (texts : List (Option (List ℕ)))
    (changing : Option (List ℕ)) (journal replies : List ℕ) →
    IsJournalText after [] → (run : IsRun set limits first days today after texts changing journal replies) →
    IsFirst run.grid run.flights run.changes run.scripts (map (commands_of run.flights) run.scripts) run.history
    run.receipts replies
