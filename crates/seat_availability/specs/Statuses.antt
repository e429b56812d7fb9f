-- The status of a class on a place.
use Rattle.std.specs.Prelude.{ℕ, ◌-◌, ◌&&◌, nat_le, nat_lt, Bool, true, false, [], ◌∷◌}
use Rattle.airline_base.specs.declared.place.Place.{Place}
use Rattle.seat_nesting.specs.Nesting.{Ladders, Steps, each_leg, ladder_at, may_wait}
use Rattle.seat_rules.specs.Bookings.{waiting}
use Rattle.seat_rules.specs.Sequential.{State}
use Rattle.seat_availability.specs.declared.statuses.Status.{Status}
use Rattle.seat_availability.specs.declared.statuses.Status.TheVariants.{Open, ListOpen, Closed, NotOperated}

-- the highest class has a seat, and with it any has one
abbrev pub has_seats : Steps → Bool
has_seats [] = false
has_seats (s ∷ lower) = nat_lt 0 s.limit

-- a seat is authorised on each leg of the place
abbrev pub is_operated : Ladders → Place → Bool
is_operated grid place =
    nat_le place.from place.to
    && each_leg (λ leg. has_seats (ladder_at grid place.flight leg)) place.from (place.to - place.from)

-- of a place that is operated or not, where there is room or not, and a seat may wait or not
abbrev pub status_of : Bool → Bool → Bool → Status
status_of false room wait = NotOperated
status_of true true wait = Open
status_of true false true = ListOpen
status_of true false false = Closed

-- with so much room in the class, where the room of the threshold counts as none
abbrev pub status_at : State → Place → ℕ → ℕ → ℕ → Status
status_at s place class threshold room =
    status_of (is_operated s.grid place) (nat_lt threshold room) (may_wait s.grid (waiting s.bookings) place class 1)
