-- The segment that a line asks for, by the names of its flight.
use Rattle.std.specs.Prelude.{List, Option, Some, None, slice_get}
use Rattle.airline_base.specs.declared.place.Place.{Place}
use Rattle.airimp_lines.specs.declared.segment.Segment.{Segment}
use Rattle.ssim_flights.specs.declared.flight.DatedLeg.{DatedLeg}
use Rattle.ssim_flights.specs.declared.flight.Flight.{Flight as Flown}
use Rattle.seat_journal.specs.declared.entry.Command.{Command}

-- from one leg of a flight to another, on the day on which the first departs
abbrev pub segment_from : Command → Flown → DatedLeg → DatedLeg → Segment
segment_from c flight first last = record {
  airline = flight.airline;
  number = flight.number;
  suffix = flight.suffix;
  class = c.class;
  day = first.day;
  board = first.board;
  off = last.off;
  code = c.code;
  seats = c.seats;
}

-- where both legs are there
abbrev pub segment_between : Command → Flown → Option DatedLeg → Option DatedLeg → Option Segment
segment_between c flight (Some first) (Some last) = Some (segment_from c flight first last)
segment_between c flight (Some first) None = None
segment_between c flight None last = None

-- from the leg where a place begins to the leg where it ends
abbrev pub segment_at : Command → Place → Option Flown → Option Segment
segment_at c place (Some flight) =
    segment_between c flight (slice_get flight.legs place.from) (slice_get flight.legs place.to)
segment_at c place None = None

abbrev pub segment_on : List Flown → Command → Option Place → Option Segment
segment_on flights c (Some place) = segment_at c place (slice_get flights place.flight)
segment_on flights c None = None

-- the segment that a command asks for, on the flight of its place
abbrev pub segment_of : List Flown → Command → Option Segment
segment_of flights c = segment_on flights c c.place
