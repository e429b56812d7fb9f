-- Bookings by their flights.
use Rattle.std.specs.Prelude.{◌≡◌, ◌<◌, ℕ, List, [], ◌∷◌, ◌++◌, length, slice_index_or}
use Rattle.seat_rules.specs.Flights.{bookings_on}
use Rattle.seat_rules.specs.declared.booking.Booking.{Booking}

-- the bookings of each flight
abbrev pub Lists : Type 0
Lists = List (List Booking)

-- those of one flight; none where there is no such flight
abbrev pub list_at : Lists → ℕ → List Booking
list_at lists flight = slice_index_or lists flight []

-- a list for each of so many flights, which has the bookings on it in their order
pub record IsByFlight (lists : Lists) (flights : ℕ) (bookings : List Booking) : Type 0 where
  pub count : length lists ≡ flights
  pub each : (flight : ℕ) → flight < flights → list_at lists flight ≡ bookings_on flight bookings

-- a booking is the last one of its flight's list, where there is such a flight, and the others are as they were
pub record Adds (old new : Lists) (b : Booking) : Type 0 where
  pub count : length new ≡ length old
  pub each : (flight : ℕ) → flight < length old → list_at new flight ≡ list_at old flight ++ bookings_on flight (b ∷ [])
