-- What stands at the front of a feed's line.
use Rattle.std.specs.Prelude.{◌≤◌, ◌-◌, ℕ, ◌==◌, ◌&&◌, nat_le, if◌then◌else◌, List, ◌∷◌, length, codes, Option, Some, None, ⊤}
use Rattle.airline_base.specs.Days.{IsCenturyDay}
use Rattle.airline_base.specs.Fields.{◌>>=◌, word_at}
use Rattle.airline_base.specs.Lines.{line_at}
use Rattle.desk_lines.specs.Words.{count_at}
use Rattle.desk_hall.specs.Orders.{day_at}
use Rattle.desk_stream.specs.declared.lead.Lead.{Lead}
use Rattle.desk_stream.specs.declared.lead.Lead.TheVariants.{Session, Day, Epoch, Unknown}

-- the digit of the manager, 0, or of a session, 1 to 8, and a blank
abbrev pub session_if : ℕ → ℕ → Option ℕ
session_if digit blank = if (blank == 32) && (nat_le 48 digit && nat_le digit 56) then Some (digit - 48) else None

abbrev pub session_at : List ℕ → Option ℕ
session_at (digit ∷ blank ∷ line) = session_if digit blank
session_at _ = None

-- epochs begin at 1
abbrev pub epoch_of : ℕ → Option ℕ
epoch_of number = if number == 0 then None else Some number

-- `?EPOCH n`
unfoldable pub epoch_at : List ℕ → Option ℕ
epoch_at text = do
  behind ← word_at (codes "?EPOCH ") text
  epoch ← count_at behind
  if length epoch.1 == 0 then epoch_of epoch.0 else None

-- a day, or an epoch
abbrev pub word_lead : Option ℕ → Option ℕ → Lead
word_lead (Some day) epoch = Day day
word_lead None (Some epoch) = Epoch epoch
word_lead None None = Unknown

abbrev pub lead_by : Option ℕ → List ℕ → Lead
lead_by (Some session) text = Session session
lead_by None text = word_lead (day_at text) (epoch_at text)

abbrev pub lead_of : List ℕ → Lead
lead_of line = lead_by (session_at line) (line_at line).0

-- the day that a feed begins with whose first line begins so, where it is one
abbrev pub first_day : Lead → Option ℕ
first_day (Day day) = Some day
first_day lead = None

-- a session is the manager or one of eight, with a line behind its digit and its blank; a day is of the years 2000 to 2099
abbrev pub IsRightLead : List ℕ → Lead → Type 0
IsRightLead line (Session session) = (session ≤ 8) × (2 ≤ length line)
IsRightLead line (Day day) = IsCenturyDay day
IsRightLead line lead = ⊤
