-- The live bookings that a list is compared with.
use Rattle.std.specs.Prelude.{◌==◌, ℕ, Bool, true, false, List, filter, slice_get, Option, Some, None}
use Rattle.std.specs.List.{flat_map}
use Rattle.ssim_flights.specs.declared.flight.Flight.{Flight as Flown}
use Rattle.seat_journal.specs.declared.entry.Command.{Command}
use Rattle.seat_journal.specs.declared.entry.Entry.{Entry}
use Rattle.seat_lists.specs.Named.{status_code}
use Rattle.seat_rules.specs.declared.booking.Booking.{Booking}
use Rattle.desk_telling.specs.Telling.{line_numbered}
use Rattle.partner_lists.specs.declared.name.Name.{Name}
use Rattle.partner_questions.specs.Touches.{name_on, paired}

-- a booking as a command that speaks of it, with the code and the seats of its status
abbrev pub command_of : Booking → Command
command_of b = record {
  locator = b.locator;
  place = Some b.place;
  class = b.class;
  code = status_code b.status;
  seats = b.seats;
}

abbrev pub name_here : List Flown → Booking → Option Name
name_here flights b = name_on flights (command_of b)

-- each booking under its name
abbrev pub named_here : List Flown → Booking → List (Name × Booking)
named_here flights b = paired (name_here flights b) b

abbrev pub all_named : List Flown → List Booking → List (Name × Booking)
all_named flights bookings = flat_map (named_here flights) bookings

-- ---- which

abbrev pub is_flown : Option Flown → Bool
is_flown None = false
is_flown (Some flight) = true

-- the horizon has the booking's flight
abbrev pub is_on_flight : List Flown → Booking → Bool
is_on_flight flights b = is_flown (slice_get flights b.place.flight)

abbrev pub is_of_session : ℕ → Option Entry → Bool
is_of_session session None = false
is_of_session session (Some e) = e.session == session

-- a line of this session made the booking, where one is asked for
abbrev pub is_made_by : Option ℕ → List Entry → Booking → Bool
is_made_by None journal b = true
is_made_by (Some session) journal b = is_of_session session (line_numbered journal b.number)

-- the live bookings, or those of a session, in order of number
abbrev pub compared : List Flown → Option ℕ → List Entry → List Booking → List Booking
compared flights session journal bookings = filter (is_made_by session journal) (filter (is_on_flight flights) bookings)
