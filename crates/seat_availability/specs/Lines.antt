-- How a message reads.
use Rattle.std.specs.Prelude.{◌≡◌, ℕ, ◌==◌, List, [], ◌∷◌, ◌++◌, decimal, codes, if◌then◌else◌}
use Rattle.airimp_lines.specs.Grammar.{letters_text}
use Rattle.airline_base.specs.Days.{IsDate, day_month}
use Rattle.seat_availability.specs.declared.segments.Message.{Message}
use Rattle.seat_availability.specs.declared.segments.Segment.{Segment}
use Rattle.seat_availability.specs.declared.statuses.Status.{Status}
use Rattle.seat_availability.specs.declared.statuses.Status.TheVariants.{Open, ListOpen, Closed, NotOperated}

abbrev pub status_code : Status → List ℕ
status_code Open = codes "AS"
status_code ListOpen = codes "CL"
status_code Closed = codes "CC"
status_code NotOperated = codes "CX"

-- the number of seats, where it is told
abbrev pub seats_text : ℕ → List ℕ
seats_text n = (if n == 0 then [] else decimal n)

-- airline, number, suffix and class
abbrev pub front_text : Segment → List ℕ
front_text segment = segment.name.airline ++ decimal segment.name.number ++ letters_text segment.name.suffix segment.class

-- behind the day: the stations, the status and the seats
abbrev pub tail_text : Message → List ℕ
tail_text m =
    codes " " ++ m.segment.run.board ++ m.segment.run.off ++ codes " " ++ status_code m.status ++ seats_text m.seats ++ 10 ∷ []

-- the line of a message, with the day on which the segment's first leg departs
pub record IsMessageLine (m : Message) (line : List ℕ) : Type 0 where
  pub year : ℕ
  pub month : ℕ
  pub day : ℕ
  pub date : IsDate year month day m.segment.run.day
  pub written : line ≡ front_text m.segment ++ day_month day month ++ tail_text m

-- the day and the month of a day are written behind what was there
pub record IsDayPut (n : ℕ) (old new : List ℕ) : Type 0 where
  pub year : ℕ
  pub month : ℕ
  pub day : ℕ
  pub date : IsDate year month day n
  pub written : new ≡ old ++ day_month day month
