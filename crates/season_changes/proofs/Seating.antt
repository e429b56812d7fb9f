-- The seats of a flight's own bookings.
use Rattle.std.proofs.Common.{◌≡◌, ℕ, Bool, List, ap, ◌∙◌}
use Rattle.std.specs.List.{sum_by}
use Rattle.seat_rules.specs.Flights.{bookings_on}
use Rattle.seat_rules.specs.declared.booking.Booking.{Booking}
use Rattle.seat_rules.specs.declared.booking.Status.{Status}
use Rattle.season_changes.specs.Seats.{seats_if, seats_on}

pub seats_are : (test : Status → Bool) (bookings all : List Booking) (flight n : ℕ) → bookings ≡ bookings_on flight all
    → n ≡ sum_by (seats_if test) bookings → n ≡ seats_on test flight all
seats_are test bookings all flight n own is = is ∙ ap (λ (l : List Booking). sum_by (seats_if test) l) own
