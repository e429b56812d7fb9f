-- Lines that can be answered: what they and their advices answer is there.
use Rattle.std.specs.Prelude.{◌≡◌, ◌≤◌, ◌<◌, ◌-◌, ℕ, List, ◌++◌, length, Some, All, slice_get}
use Rattle.airimp_lines.specs.declared.requests.Request.{Request}
use Rattle.airimp_lines.specs.declared.segment.Segment.{Segment}
use Rattle.ssim_flights.specs.declared.flight.Flight.{Flight as Flown}
use Rattle.seat_journal.specs.declared.entry.Advice.{Advice}
use Rattle.seat_journal.specs.declared.entry.Command.{Command}
use Rattle.seat_journal.specs.declared.entry.Entry.{Entry}
use Rattle.seat_journal.specs.declared.entry.Work.{Work}
use Rattle.seat_journal.specs.declared.entry.Work.TheVariants.{Seats, Limit, Sale}
use Rattle.desk_telling.specs.Segments.{segment_of}
use Rattle.seat_replies.specs.RunDesk.{requests_of}

-- seats are asked by the request at this place; what the manager sets has none
abbrev pub IsRequested : List Request → ℕ → Work → Type 0
IsRequested requests place (Seats command) = place < length requests
IsRequested requests place (Limit change) = Unit {0}
IsRequested requests place (Sale change) = Unit {0}

-- the line of this number asks for seats on legs that are flown
pub record IsBooked (flights : List Flown) (history : List Entry) (number : ℕ) : Type 0 where
  pub within : (1 ≤ number) × (number ≤ length history)
  pub line : Entry
  pub at : slice_get history (number - 1) ≡ Some line
  pub command : Command
  pub work_is : line.work ≡ Seats command
  pub segment : Segment
  pub flown : segment_of flights command ≡ Some segment

-- so does the line of the number of each advice
pub record AreBooked (flights : List Flown) (history : List Entry) (advices : List Advice) : Type 0 where
  pub each : All (λ (a : Advice). IsBooked flights history a.number) advices

pub record IsAnswerable (flights : List Flown) (requests : List Request) (history : List Entry) (place : ℕ)
    (e : Entry) : Type 0 where
  pub asked : IsRequested requests place e.work
  pub advised : AreBooked flights history e.advices

-- each line, beside the request at its place
pub record AreAnswerable (flights : List Flown) (requests : List Request) (history lines : List Entry) : Type 0 where
  pub each : (place : ℕ) (e : Entry) → slice_get lines place ≡ Some e → IsAnswerable flights requests history place e

-- the lines of each session, beside what it is asked
pub record AreAllAnswerable (flights : List Flown) (scripts : List (List Request)) (history : List Entry)
    (lists : List (List Entry)) : Type 0 where
  pub each : (session : ℕ) (lines : List Entry) → slice_get lists session ≡ Some lines
      → AreAnswerable flights (requests_of scripts session) history lines

-- such a text is written behind what was there
pub record IsBehind (is : List ℕ → Type 0) (old new : List ℕ) : Type 0 where
  pub part : List ℕ
  pub is_part : is part
  pub written : new ≡ old ++ part
