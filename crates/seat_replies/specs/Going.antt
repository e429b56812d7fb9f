-- What a run goes on from: the lines of an older journal, and what later texts need to know of them.
use Rattle.std.specs.Prelude.{◌≤◌, ◌-◌, ◌==◌, ℕ, zero, suc, List, [], ◌∷◌, ◌++◌, drop, length, if◌then◌else◌}
use Rattle.seat_journal.specs.Text.{IsJournalText}
use Rattle.seat_journal.specs.declared.entry.Command.{Command}
use Rattle.seat_journal.specs.declared.entry.Entry.{Entry}
use Rattle.seat_nesting.specs.Nesting.{Ladders}
use Rattle.seat_rules.specs.Journal.{IsLegal, calls_of}
use Rattle.seat_desk.specs.AuditDesk.{most_journal_bytes, most_lines}
use Rattle.seat_replies.specs.declared.past.Past.{Past}

-- the bytes are the text of this legal history over the limits, and not too many
pub record IsPast (grid : Ladders) (past : List Entry) (bytes : List ℕ) : Type 0 where
  pub within : length bytes ≤ most_journal_bytes
  pub is_text : IsJournalText bytes past
  pub legal : IsLegal grid past
  pub few : length past ≤ most_lines

-- ---- the sessions

-- how many lines session 0 has, session 1, and so on to session n
abbrev pub calls_to : ℕ → List Entry → List ℕ
calls_to zero past = calls_of past 0 ∷ []
calls_to (suc n) past = calls_to n past ++ calls_of past (suc n) ∷ []

-- how many lines each session has
abbrev pub past_of : List Entry → Past
past_of past = record { calls = calls_to 8 past }

-- the highest session to n that has a line, or 0
abbrev pub highest_to : ℕ → List Entry → ℕ
highest_to zero past = 0
highest_to (suc n) past = (if calls_of past (suc n) == 0 then highest_to n past else suc n)

-- so many lists of nothing
abbrev pub idle : ℕ → List (List Command)
idle zero = []
idle (suc n) = [] ∷ idle n

-- a list for each session that is opened: these, and none for each further session as far as one that has a line
abbrev pub lists_over : List Entry → List (List Command) → List (List Command)
lists_over past lists = lists ++ idle (highest_to 8 past - length lists)

-- the lines of each session behind so many
abbrev pub behind : List ℕ → List (List Entry) → List (List Entry)
behind (count ∷ counts) (lines ∷ lists) = drop count lines ∷ behind counts lists
behind _ [] = []
behind [] (lines ∷ lists) = []
