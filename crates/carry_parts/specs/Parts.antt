-- The part of a carry that one of several hosts has: what is on its flights.
use Rattle.std.specs.Prelude.{◌≡◌, ◌==◌, ◌&&◌, ℕ, nat_le, Bool, true, false, List, filter, slice_get, Option, None, Some, IfSome}
use Rattle.flight_routes.specs.Shards.{name_text, shard_of}
use Rattle.ssim_flights.specs.declared.flight.Flight.{Flight as Flown}
use Rattle.seat_journal.specs.declared.entry.Change.{Change}
use Rattle.seat_journal.specs.declared.entry.Work.{Work}
use Rattle.seat_rules.specs.Flights.{flight_of}
use Rattle.seat_carrying.specs.declared.owned.Owned.{Owned}
use Rattle.carry_lines.specs.declared.mark.Mark.{Mark}
use Rattle.carry_parts.specs.declared.part.Part.{Part}

-- ---- flights

-- of some hosts the part is of the one that the flight's designator goes to
abbrev pub has_flown : Part → Flown → Bool
has_flown part flight = nat_le 1 part.shards && (shard_of part.shards (name_text flight.airline flight.number flight.suffix) == part.shard)

-- a flight that isn't there is no part's
abbrev pub has_some : Part → Option Flown → Bool
has_some part None = false
has_some part (Some flight) = has_flown part flight

-- the part has the flight of this index
abbrev pub has_flight : Part → List Flown → ℕ → Bool
has_flight part flights flight = has_some part (slice_get flights flight)

-- ---- what is on them

abbrev pub own_changes : Part → List Flown → List Change → List Change
own_changes part news rows = filter (λ row. has_flight part news row.flight) rows

abbrev pub own_owned : Part → List Flown → List Owned → List Owned
own_owned part news kept = filter (λ o. has_flight part news o.booking.place.flight) kept

abbrev pub own_marks : Part → List Flown → List Mark → List Mark
own_marks part news marks = filter (λ m. has_flight part news m.flight) marks

-- what is asked is on a flight of the part, or on none
pub record IsOnOwn (part : Part) (flights : List Flown) (work : Work) : Type 0 where
  pub own : IfSome (flight_of work) (λ flight. has_flight part flights flight ≡ true)
