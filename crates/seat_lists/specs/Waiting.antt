-- What `waiting` writes: who waits, in the order in which a pass confirms, and the seats that each lacks.
use Rattle.std.specs.Prelude.{◌≡◌, ◌-◌, ℕ, false, List, [], ◌∷◌, ◌++◌, decimal, codes}
use Rattle.ssim_flights.specs.declared.flight.Flight.{Flight as Flown}
use Rattle.seat_rules.specs.Sequential.{State, room_left}
use Rattle.seat_rules.specs.declared.booking.Booking.{Booking}
use Rattle.seat_desk.specs.FlightsDesk.{IsText}
use Rattle.seat_lists.specs.Named.{IsNamed}

-- the seats beyond those that are left on its place in its class
abbrev pub lacked : State → Booking → ℕ
lacked s b = b.seats - room_left s b.place b.class

-- the booking is named with its locator, and LACKS SEATS stands behind
pub record IsWaitingLine (flights : List Flown) (s : State) (b : Booking) (line : List ℕ) : Type 0 where
  pub part : List ℕ
  pub is_named : IsNamed flights false b part
  pub written : line ≡ part ++ codes " LACKS " ++ decimal (lacked s b) ++ 10 ∷ []

-- a line for each booking, in order
abbrev pub IsWaitingText : List Flown → State → List Booking → List ℕ → Type 0
IsWaitingText flights s bookings text = IsText (λ n. IsWaitingLine flights s) 0 bookings text
