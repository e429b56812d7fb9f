-- What `bookings` writes: the live bookings that are asked for, a line each.
use Rattle.std.specs.Prelude.{◌≡◌, ◌==◌, ℕ, Bool, List, [], ◌∷◌, ◌++◌, length}
use Rattle.ssim_flights.specs.declared.flight.Flight.{Flight as Flown}
use Rattle.seat_rules.specs.declared.booking.Booking.{Booking}
use Rattle.seat_desk.specs.FlightsDesk.{IsText}
use Rattle.seat_lists.specs.Named.{IsNamed}
use Rattle.seat_lists.specs.declared.picking.Wanted.{Wanted}

-- the question names the one locator
abbrev pub names_one : Wanted → Bool
names_one wanted = length wanted.locators.now == 1

-- the booking is named, and the line ends
pub record IsBookingLine (flights : List Flown) (alone : Bool) (b : Booking) (line : List ℕ) : Type 0 where
  pub part : List ℕ
  pub is_named : IsNamed flights alone b part
  pub written : line ≡ part ++ 10 ∷ []

-- a line for each booking, in order
abbrev pub IsBookingsText : List Flown → Bool → List Booking → List ℕ → Type 0
IsBookingsText flights alone bookings text = IsText (λ n. IsBookingLine flights alone) 0 bookings text
