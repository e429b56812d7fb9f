-- The tables of bookings and of who waits: a row for each booking.
use Rattle.std.specs.Prelude.{ℕ, false, true, List, [], ◌∷◌, ◌++◌, codes, slice_get, Option, Some, None}
use Rattle.airline_base.specs.declared.place.Place.{Place}
use Rattle.ssim_flights.specs.declared.flight.DatedLeg.{DatedLeg}
use Rattle.ssim_flights.specs.declared.flight.Flight.{Flight as Flown}
use Rattle.seat_journal.specs.declared.entry.Entry.{Entry}
use Rattle.seat_nesting.specs.Nesting.{Ladders}
use Rattle.seat_rules.specs.Journal.{replay}
use Rattle.seat_rules.specs.Sequential.{State}
use Rattle.seat_rules.specs.declared.booking.Booking.{Booking}
use Rattle.seat_lists.specs.Listing.{listed}
use Rattle.seat_lists.specs.Named.{status_code}
use Rattle.seat_lists.specs.Picking.{picked}
use Rattle.seat_lists.specs.Waiting.{lacked}
use Rattle.seat_lists.specs.declared.picking.Wanted.{Wanted}
use Rattle.seat_tables.specs.Rows.{rows_from}
use Rattle.seat_tables.specs.declared.cell.Cell.{Cell}
use Rattle.seat_tables.specs.declared.cell.Cell.TheVariants.{Number, Date, Stop, Letter, Name, Word, Flight}

-- a row over the flight of a place, its first leg and its last; none where they are not there
abbrev pub row_over : (Flown → DatedLeg → DatedLeg → List Cell) → Flown → Option DatedLeg → Option DatedLeg → List (List Cell)
row_over row flight None last = []
row_over row flight (Some first) None = []
row_over row flight (Some first) (Some last) = row flight first last ∷ []

abbrev pub row_on : (Flown → DatedLeg → DatedLeg → List Cell) → Place → Option Flown → List (List Cell)
row_on row place None = []
row_on row place (Some flight) = row_over row flight (slice_get flight.legs place.from) (slice_get flight.legs place.to)

-- ---- bookings

abbrev pub booking_names : List (List ℕ)
booking_names =
    codes "number" ∷ codes "locator" ∷ codes "flight" ∷ codes "designator" ∷ codes "class" ∷ codes "day" ∷ codes "board"
    ∷ codes "off" ∷ codes "status" ∷ codes "seats" ∷ []

-- it leaves with the first leg of its place, on that leg's day, and arrives with the last
abbrev pub booking_row : Booking → Flown → DatedLeg → DatedLeg → List Cell
booking_row b flight first last =
    Number b.number ∷ Name b.locator ∷ Number b.place.flight ∷ Flight flight.airline flight.number flight.suffix ∷ Letter b.class
    ∷ Date first.day ∷ Stop first.board ∷ Stop last.off ∷ Word (status_code b.status) ∷ Number b.seats ∷ []

abbrev pub rows_of_booking : List Flown → ℕ → Booking → List (List Cell)
rows_of_booking flights k b = row_on (booking_row b) b.place (slice_get flights b.place.flight)

-- those that are asked for, class by class where a flight is
abbrev pub booking_rows : Wanted → List Flown → Ladders → List Entry → List (List Cell)
booking_rows wanted flights grid journal =
    rows_from (rows_of_booking flights) 0 (listed wanted.flight (picked flights wanted false (replay grid journal).bookings))

-- ---- who waits

abbrev pub waiting_names : List (List ℕ)
waiting_names =
    codes "number" ∷ codes "locator" ∷ codes "flight" ∷ codes "designator" ∷ codes "class" ∷ codes "day" ∷ codes "board"
    ∷ codes "off" ∷ codes "status" ∷ codes "seats" ∷ codes "lacks" ∷ []

-- the same, and the seats that it lacks
abbrev pub waiting_row : State → Booking → Flown → DatedLeg → DatedLeg → List Cell
waiting_row s b flight first last =
    Number b.number ∷ Name b.locator ∷ Number b.place.flight ∷ Flight flight.airline flight.number flight.suffix ∷ Letter b.class
    ∷ Date first.day ∷ Stop first.board ∷ Stop last.off ∷ Word (status_code b.status) ∷ Number b.seats ∷ Number (lacked s b) ∷ []

abbrev pub rows_of_waiter : List Flown → State → ℕ → Booking → List (List Cell)
rows_of_waiter flights s k b = row_on (waiting_row s b) b.place (slice_get flights b.place.flight)

-- those that are asked for, in the order in which they would be confirmed
abbrev pub waiting_rows : Wanted → List Flown → Ladders → List Entry → List (List Cell)
waiting_rows wanted flights grid journal =
    rows_from (rows_of_waiter flights (replay grid journal)) 0 (picked flights wanted true (replay grid journal).bookings)
