-- The seats of a flight's bookings: each booking's once, however many legs it has.
use Rattle.std.specs.Prelude.{ℕ, Bool, if◌then◌else◌, List}
use Rattle.std.specs.List.{sum_by}
use Rattle.seat_rules.specs.Flights.{bookings_on}
use Rattle.seat_rules.specs.declared.booking.Booking.{Booking}
use Rattle.seat_rules.specs.declared.booking.Status.{Status}

-- those of a booking whose status passes the test
abbrev pub seats_if : (Status → Bool) → Booking → ℕ
seats_if test b = (if test b.status then b.seats else 0)

-- those of the bookings on a flight
abbrev pub seats_on : (Status → Bool) → ℕ → List Booking → ℕ
seats_on test flight bookings = sum_by (seats_if test) (bookings_on flight bookings)
