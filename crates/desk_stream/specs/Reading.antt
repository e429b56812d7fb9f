-- Where the reading of a feed stands, and what each of its words leaves.
use Rattle.std.specs.Prelude.{◌≤◌, ℕ, nat_lt, if◌then◌else◌, List, length, Option, Some, None, ⊤}
use Rattle.airline_base.specs.Days.{IsCenturyDay}
use Rattle.desk_lines.specs.Lines.{next_number}
use Rattle.desk_hall.specs.declared.turn.Turn.TheVariants.{Stands}
use Rattle.desk_stream.specs.declared.lead.Lead.{Lead}
use Rattle.desk_stream.specs.declared.lead.Lead.TheVariants as leads
use Rattle.desk_stream.specs.declared.reading.Reading.{Reading as Read}
use Rattle.desk_stream.specs.declared.reading.Step.{Step}
use Rattle.desk_stream.specs.declared.reading.Step.TheVariants.{Told, Silent, Line}
use Rattle.desk_stream.specs.declared.telling.FeedTurn.TheVariants.{Desk, Unknown, Dayless}

-- a line more
abbrev pub counted : Read → Read
counted reading = record reading { lines = next_number reading.lines }

-- a day that is not later is passed over
abbrev pub later_of : ℕ → ℕ → ℕ
later_of today day = if nat_lt today day then day else today

-- the manager is told where it stands on the day, at a journal of this epoch
abbrev pub on_day : ℕ → Read → ℕ → Read × Step
on_day own reading day = (record reading { today = Some day }, Told (Desk (Stands day own)))

abbrev pub of_epoch : Read → ℕ → Read
of_epoch reading epoch = record reading { epoch = epoch }

-- the first line is a day, whatever day it is: each line ahead of it is at fault, and an epoch among them holds all the same
abbrev pub first_step : ℕ → Read → Lead → Read × Step
first_step own reading (leads.Day day) = on_day own reading day
first_step own reading (leads.Epoch epoch) = (of_epoch reading epoch, Told (Dayless reading.lines))
first_step own reading lead = (reading, Told (Dayless reading.lines))

-- and then each is led by a session, or is a later day, or an epoch
abbrev pub next_step : ℕ → Read → ℕ → Lead → Read × Step
next_step own reading today (leads.Session session) = (reading, Line session today)
next_step own reading today (leads.Day day) = on_day own reading (later_of today day)
next_step own reading today (leads.Epoch epoch) = (of_epoch reading epoch, Silent)
next_step own reading today leads.Unknown = (reading, Told (Unknown reading.lines))

abbrev pub step_by : ℕ → Read → Option ℕ → Lead → Read × Step
step_by own reading None lead = first_step own reading lead
step_by own reading (Some today) lead = next_step own reading today lead

abbrev pub step_of : ℕ → Read → Lead → Read × Step
step_of own reading lead = step_by own reading reading.today lead

-- a session's line is behind a digit and a blank, and read on a day of the years 2000 to 2099
abbrev pub IsRightStep : List ℕ → Step → Type 0
IsRightStep line (Line session today) = (session ≤ 8) × (2 ≤ length line) × IsCenturyDay today
IsRightStep line step = ⊤
