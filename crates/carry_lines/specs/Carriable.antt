-- Which live bookings can be asked for over other limits.
use Rattle.std.specs.Prelude.{ℕ, ◌&&◌, nat_le, nat_lt, Bool, List, length}
use Rattle.airline_base.specs.declared.place.Place.{Place}
use Rattle.seat_nesting.specs.Nesting.{Ladders, legs_of}
use Rattle.seat_rules.specs.Bookings.{IsApart}
use Rattle.seat_carrying.specs.Carrying.{sells}
use Rattle.seat_carrying.specs.Owned.{bookings_of}
use Rattle.seat_carrying.specs.declared.owned.Owned.{Owned}

-- the session of an agent
abbrev pub is_agent : ℕ → Bool
is_agent session = nat_le 1 session && nat_le session 8

-- a party of 1 to 999 seats
abbrev pub is_party : ℕ → Bool
is_party seats = nat_le 1 seats && nat_le seats 999

-- the limits have the legs of the place
abbrev pub is_there : Ladders → Place → Bool
is_there grid place = nat_le place.from place.to && nat_lt place.to (length (legs_of grid place.flight))

-- an agent's party on a place that is there, in a class that each of its legs has and that is open
abbrev pub is_carriable : Ladders → Owned → Bool
is_carriable grid o =
    is_agent o.session && is_party o.booking.seats && is_there grid o.booking.place
    && sells grid o.booking.place o.booking.class

-- where no two were for the same, no two are
pub record StaysApart (old new : List Owned) : Type 0 where
  pub each : IsApart (bookings_of old) → IsApart (bookings_of new)
