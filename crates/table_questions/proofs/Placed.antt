-- The row of a booking, over the flight and the legs of its place.
use Rattle.std.proofs.Common.{◌≡◌, ℕ, List, [], ◌∷◌, sym, subst, Option, Some}
use Rattle.std.specs.Prelude.{slice_get}
use Rattle.airline_base.specs.declared.place.Place.{Place}
use Rattle.ssim_flights.specs.declared.flight.DatedLeg.{DatedLeg}
use Rattle.ssim_flights.specs.declared.flight.Flight.{Flight as Flown}
use Rattle.seat_rules.specs.Sequential.{State}
use Rattle.seat_rules.specs.declared.booking.Booking.{Booking}
use Rattle.seat_tables.specs.Sheets.{ArePut}
use Rattle.seat_tables.specs.declared.cell.Cell.{Cell}
use Rattle.seat_tables.specs.declared.sheet.Sheet.{Sheet}
use Rattle.table_questions.specs.BookingRows.{booking_names, booking_row, row_on, row_over, rows_of_booking, rows_of_waiter, waiting_names, waiting_row}

row_put : (names : List (List ℕ)) (row : Flown → DatedLeg → DatedLeg → List Cell) (flights : List Flown) (place : Place)
    (flight : Flown) (first last : DatedLeg) (old new : Sheet) → slice_get flights place.flight ≡ Some flight
    → slice_get flight.legs place.from ≡ Some first → slice_get flight.legs place.to ≡ Some last
    → ArePut names (row flight first last ∷ []) old new → ArePut names (row_on row place (slice_get flights place.flight)) old new
row_put names row flights place flight first last old new is_flight is_first is_last put =
    subst (λ (f : Option Flown). ArePut names (row_on row place f) old new) (sym is_flight)
    (subst (λ (o : Option DatedLeg). ArePut names (row_over row flight o (slice_get flight.legs place.to)) old new) (sym is_first)
    (subst (λ (o : Option DatedLeg). ArePut names (row_over row flight (Some first) o) old new) (sym is_last) put))

pub booking_put : (flights : List Flown) (b : Booking) (flight : Flown) (first last : DatedLeg) (old new : Sheet)
    → slice_get flights b.place.flight ≡ Some flight → slice_get flight.legs b.place.from ≡ Some first
    → slice_get flight.legs b.place.to ≡ Some last → ArePut booking_names (booking_row b flight first last ∷ []) old new
    → ArePut booking_names (rows_of_booking flights 0 b) old new
booking_put flights b flight first last old new = row_put booking_names (booking_row b) flights b.place flight first last old new

pub waiter_put : (flights : List Flown) (s : State) (b : Booking) (flight : Flown) (first last : DatedLeg) (old new : Sheet)
    → slice_get flights b.place.flight ≡ Some flight → slice_get flight.legs b.place.from ≡ Some first
    → slice_get flight.legs b.place.to ≡ Some last → ArePut waiting_names (waiting_row s b flight first last ∷ []) old new
    → ArePut waiting_names (rows_of_waiter flights s 0 b) old new
waiter_put flights s b flight first last old new = row_put waiting_names (waiting_row s b) flights b.place flight first last old new
