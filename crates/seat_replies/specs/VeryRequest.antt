-- Whose request a line of a journal is: the very request, whatever the year that a later `--today` gives it.
use Rattle.std.specs.Prelude.{◌≡◌, ◌&&◌, ◌==◌, ℕ, Bool, nat_eq, List, Option, Some, None}
use Rattle.std.specs.Cmp.Lexicographic.{pointwise}
use Rattle.std.specs.Option.{option_eq}
use Rattle.std.proofs.Math.Bool.{beq}
use Rattle.airline_base.specs.Days.{IsDate}
use Rattle.airline_base.specs.declared.place.Place.{Place}
use Rattle.ssim_flights.specs.declared.flight.Flight.{Flight as Flown}
use Rattle.airimp_lines.specs.declared.requests.Request.{Request}
use Rattle.airimp_lines.specs.declared.segment.Segment.{Segment}
use Rattle.seat_journal.specs.declared.entry.Change.{Change}
use Rattle.seat_journal.specs.declared.entry.Command.{Command}
use Rattle.seat_journal.specs.declared.entry.SaleChange.{SaleChange}
use Rattle.seat_journal.specs.declared.entry.Work.{Work}
use Rattle.seat_journal.specs.declared.entry.Work.TheVariants.{Seats, Limit, Sale}
use Rattle.desk_telling.specs.Segments.{segment_on}
use Rattle.seat_replies.specs.Requests.{command_of}

-- the day has this date, in some year
pub record IsOnDate (month day n : ℕ) : Type 0 where
  pub year : ℕ
  pub date : IsDate year month day n

-- the day and the month of the one are those of the other, whatever their years
pub record IsSameDate (flown asked : ℕ) : Type 0 where
  pub each : (month day : ℕ) → IsOnDate month day flown → IsOnDate month day asked

-- the designator, the day and the month, and the pair of the one are those of the other
pub record IsSameFlight (flown asked : Segment) : Type 0 where
  pub airline_is : flown.airline ≡ asked.airline
  pub number_is : flown.number ≡ asked.number
  pub suffix_is : flown.suffix ≡ asked.suffix
  pub date_is : IsSameDate flown.day asked.day
  pub board_is : flown.board ≡ asked.board
  pub off_is : flown.off ≡ asked.off

-- the place is of a flight that is flown, and the flight's segment on it is that of the request
pub record IsFlownAs (flights : List Flown) (c : Command) (place : Place) (asked : Segment) : Type 0 where
  pub segment : Segment
  pub flown : segment_on flights c (Some place) ≡ Some segment
  pub same : IsSameFlight segment asked

-- where there is a place; a line without one names no flight
abbrev pub IsPlacedAs : List Flown → Command → Option Place → Segment → Type 0
IsPlacedAs flights c (Some place) asked = IsFlownAs flights c place asked
IsPlacedAs flights c None asked = Unit {0}

-- the locator, the class, the code and the seats are those of the request
pub record IsAskedAs (c : Command) (r : Request) : Type 0 where
  pub locator_is : c.locator ≡ r.locator
  pub class_is : c.class ≡ r.segment.class
  pub code_is : c.code ≡ r.segment.code
  pub seats_is : c.seats ≡ r.segment.seats

-- what a line asks for is this very request; what the manager sets is none
abbrev pub IsVeryRequest : List Flown → Request → Work → Type 0
IsVeryRequest flights r (Seats c) = IsAskedAs c r × IsPlacedAs flights c c.place r.segment
IsVeryRequest flights r (Limit change) = ⊥
IsVeryRequest flights r (Sale change) = ⊥

-- the line at a place is the very request there, or neither is there
abbrev pub Agree : List Flown → Option Request → Option Work → Type 0
Agree flights (Some r) (Some work) = IsVeryRequest flights r work
Agree flights None None = Unit {0}
Agree flights _ _ = ⊥

-- ---- tests

-- the one is asked as the other is, field by field
abbrev pub same_asked : Command → Request → Bool
same_asked c r =
    pointwise nat_eq c.locator r.locator && (c.class == r.segment.class) && pointwise nat_eq c.code r.segment.code
    && (c.seats == r.segment.seats)

-- the designator and the pair of the one are those of the other
abbrev pub same_named : Segment → Segment → Bool
same_named flown asked =
    pointwise nat_eq flown.airline asked.airline && (flown.number == asked.number)
    && option_eq nat_eq flown.suffix asked.suffix && pointwise nat_eq flown.board asked.board
    && pointwise nat_eq flown.off asked.off

-- a test of two changes, field by field
abbrev pub same_change : Change → Change → Bool
same_change a b =
    (a.flight == b.flight) && (a.leg == b.leg) && (a.class == b.class) && (a.limit == b.limit) && (a.wait == b.wait)

-- and of two closings or openings
abbrev pub same_sale : SaleChange → SaleChange → Bool
same_sale a b = (a.flight == b.flight) && (a.leg == b.leg) && option_eq nat_eq a.class b.class && beq a.closed b.closed

-- ---- the law

-- what a request asks of the inventory is that very request
abbrev pub CommandsAreVeryRequests : Type 0
CommandsAreVeryRequests =
    (flights : List Flown) (request : Request) → IsVeryRequest flights request (Seats (command_of flights request))
