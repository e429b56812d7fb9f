-- How a booking is named in a line: its number, its locator, and its segment as a reply has it.
use Rattle.std.specs.Prelude.{◌≡◌, ℕ, Bool, true, false, List, [], ◌++◌, slice_get, decimal, codes, Some}
use Rattle.airimp_lines.specs.Grammar.{IsPlainLine}
use Rattle.airimp_lines.specs.declared.segment.Segment.{Segment}
use Rattle.ssim_flights.specs.declared.flight.DatedLeg.{DatedLeg}
use Rattle.ssim_flights.specs.declared.flight.Flight.{Flight as Flown}
use Rattle.seat_rules.specs.declared.booking.Booking.{Booking}
use Rattle.seat_rules.specs.declared.booking.Status.{Status}
use Rattle.seat_rules.specs.declared.booking.Status.TheVariants.{Held, Waiting}

-- AIRIMP: HK where the seats are held, HL where they wait
abbrev pub status_code : Status → List ℕ
status_code Held = codes "HK"
status_code Waiting = codes "HL"

-- the segment of a booking: it leaves with the first leg of its place, on that leg's day, and arrives with the last
abbrev pub segment_of : Flown → DatedLeg → DatedLeg → Booking → Segment
segment_of flight first last b = record {
  airline = flight.airline;
  number = flight.number;
  suffix = flight.suffix;
  class = b.class;
  day = first.day;
  board = first.board;
  off = last.off;
  code = status_code b.status;
  seats = b.seats;
}

-- the locator and a blank, or nothing where the question names the one that it is
abbrev pub locator_text : Bool → Booking → List ℕ
locator_text true b = []
locator_text false b = b.locator ++ codes " "

-- NUMBER [LOCATOR] and the booking's segment, written as in a reply
pub record IsNamed (flights : List Flown) (alone : Bool) (b : Booking) (text : List ℕ) : Type 0 where
  pub flight : Flown
  pub first : DatedLeg
  pub last : DatedLeg
  pub is_flight : slice_get flights b.place.flight ≡ Some flight
  pub is_first : slice_get flight.legs b.place.from ≡ Some first
  pub is_last : slice_get flight.legs b.place.to ≡ Some last
  pub segment : List ℕ
  pub is_segment : IsPlainLine (segment_of flight first last b) segment
  pub written : text ≡ decimal b.number ++ codes " " ++ locator_text alone b ++ segment

-- ---- the parts of the text

-- a segment is written behind what was there
pub record IsSegmentPut (segment : Segment) (old new : List ℕ) : Type 0 where
  pub part : List ℕ
  pub is_segment : IsPlainLine segment part
  pub written : new ≡ old ++ part

-- a booking is named behind what was there
pub record IsNamedPut (flights : List Flown) (alone : Bool) (b : Booking) (old new : List ℕ) : Type 0 where
  pub part : List ℕ
  pub is_named : IsNamed flights alone b part
  pub written : new ≡ old ++ part
