-- Which live bookings are asked for, and the line of a journal that made one.
use Rattle.std.specs.Prelude.{◌≡◌, ◌<◌, ◌+◌, ◌==◌, ◌&&◌, ◌||◌, ℕ, nat_eq, nat_le, Bool, true, false, List, filter, length, slice_get, Option, Some, None}
use Rattle.std.specs.Cmp.Lexicographic.{pointwise}
use Rattle.std.specs.List.{list_any}
use Rattle.std.specs.Option.{option_eq}
use Rattle.airline_base.specs.declared.place.Place.{Place}
use Rattle.ssim_flights.specs.declared.flight.DatedLeg.{DatedLeg}
use Rattle.ssim_flights.specs.declared.flight.Flight.{Flight as Flown}
use Rattle.seat_nesting.specs.Nesting.{Fits, Ladders}
use Rattle.seat_journal.specs.declared.entry.Command.{Command}
use Rattle.seat_journal.specs.declared.entry.Entry.{Entry}
use Rattle.seat_journal.specs.declared.entry.Work.{Work}
use Rattle.seat_journal.specs.declared.entry.Work.TheVariants.{Seats, Limit, Sale}
use Rattle.seat_rules.specs.Bookings.{is_waiting}
use Rattle.seat_rules.specs.declared.booking.Booking.{Booking}
use Rattle.seat_rules.specs.declared.booking.Status.{Status}
use Rattle.seat_lists.specs.declared.picking.Designator.{Designator}
use Rattle.seat_lists.specs.declared.picking.Wanted.{Wanted}

-- each locator is kept, or those that are asked for
abbrev pub has_locator : List (List ℕ) → Booking → Bool
has_locator locators b = (length locators == 0) || list_any (λ locator. pointwise nat_eq locator b.locator) locators

-- each flight is kept, or those of the designator that is asked for
abbrev pub keeps_flight : Option Designator → Flown → Bool
keeps_flight None flight = true
keeps_flight (Some d) flight =
    pointwise nat_eq flight.airline d.airline && (flight.number == d.number) && option_eq nat_eq flight.suffix d.suffix

abbrev pub departs_on : ℕ → Option DatedLeg → Bool
departs_on day None = false
departs_on day (Some leg) = leg.day == day

-- each place is kept, or those whose first leg departs on the local day that is asked for
abbrev pub keeps_departure : Option ℕ → Option DatedLeg → Bool
keeps_departure None leg = true
keeps_departure (Some day) leg = departs_on day leg

abbrev pub keeps_on : Wanted → Place → Option Flown → Bool
keeps_on wanted place None = false
keeps_on wanted place (Some flight) =
    keeps_flight wanted.flight flight && keeps_departure wanted.day (slice_get flight.legs place.from)

abbrev pub keeps_place : List Flown → Wanted → Place → Bool
keeps_place flights wanted place = keeps_on wanted place (slice_get flights place.flight)

-- each booking is kept, or those that wait
abbrev pub keeps_status : Bool → Status → Bool
keeps_status false status = true
keeps_status true status = is_waiting status

abbrev pub is_asked : List Flown → Wanted → Bool → Booking → Bool
is_asked flights wanted waiting b =
    keeps_status waiting b.status && has_locator wanted.locators.now b && keeps_place flights wanted b.place

-- those that are asked for, as they stand: in order of number
abbrev pub picked : List Flown → Wanted → Bool → List Booking → List Booking
picked flights wanted waiting bookings = filter (is_asked flights wanted waiting) bookings

-- ---- one number after the other

-- the bookings of this number
abbrev pub numbered : ℕ → List Booking → List Booking
numbered n bookings = filter (λ b. b.number == n) bookings

-- and those of them that pass the test
abbrev pub chosen_at : (Booking → Bool) → ℕ → List Booking → List Booking
chosen_at test n bookings = filter (λ b. test b && (b.number == n)) bookings

-- those that pass it up to this number
abbrev pub chosen_up_to : (Booking → Bool) → ℕ → List Booking → List Booking
chosen_up_to test n bookings = filter (λ b. test b && nat_le b.number n) bookings

-- ---- the line that made a booking

-- a line of the journal asked for the booking's place under its locator, and the grid has that place
pub record IsMade (grid : Ladders) (journal : List Entry) (b : Booking) : Type 0 where
  pub line : ℕ
  pub entry : Entry
  pub command : Command
  pub number_is : b.number ≡ line + 1
  pub is_entry : slice_get journal line ≡ Some entry
  pub is_command : entry.work ≡ Seats command
  pub place_is : command.place ≡ Some b.place
  pub locator_is : command.locator ≡ b.locator
  pub fits : Fits grid b.place

-- the entry is a line of the journal, and has its number, counted from 1
pub record IsLine (journal : List Entry) (line : Entry) : Type 0 where
  pub index : ℕ
  pub here : slice_get journal index ≡ Some line
  pub number_is : line.number ≡ index + 1

-- the place that a line asks for
abbrev pub place_asked : Work → Option Place
place_asked (Seats c) = c.place
place_asked (Limit c) = None
place_asked (Sale c) = None

-- ---- where a booking is

-- the flight has both legs of the place
pub record HasPlace (flights : List Flown) (place : Place) : Type 0 where
  pub flight : Flown
  pub is_flight : slice_get flights place.flight ≡ Some flight
  pub from_below : place.from < length flight.legs
  pub to_below : place.to < length flight.legs

-- the grid has the booking's place, and so have the flights
pub record IsThere (flights : List Flown) (grid : Ladders) (b : Booking) : Type 0 where
  pub fits : Fits grid b.place
  pub place : HasPlace flights b.place
