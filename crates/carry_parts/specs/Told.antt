-- Of which live bookings a part tells what became.
use Rattle.std.specs.Prelude.{◌==◌, Bool, List, [], ◌∷◌, ◌++◌, Option, Some, None, if◌then◌else◌}
use Rattle.ssim_flights.specs.declared.flight.Flight.{Flight as Flown}
use Rattle.seat_rules.specs.declared.booking.Booking.{Booking}
use Rattle.carry_order.specs.declared.numbering.Numbered.{Numbered}
use Rattle.carry_parts.specs.Parts.{has_flight}
use Rattle.carry_parts.specs.declared.part.Part.{Part}

-- the next of those that were asked for, where it is this booking, and those behind it
abbrev pub next_of : Booking → List Numbered → Option Numbered × List Numbered
next_of b [] = (None, [])
next_of b (n ∷ rest) = (if n.owned.booking.number == b.number then (Some n, rest) else (None, n ∷ rest))

-- by the new flight of who was asked for, and by the old one of who was asked for nowhere
abbrev pub is_told : Part → List Flown → List Flown → Booking → Option Numbered → Bool
is_told part olds news b None = has_flight part olds b.place.flight
is_told part olds news b (Some n) = has_flight part news n.owned.booking.place.flight

-- of one live booking after the other, and those that were asked for, both in order of number
abbrev pub told : Part → List Flown → List Flown → List Booking → List Numbered → List Booking
told part olds news [] numbered = []
told part olds news (b ∷ live) numbered =
    (if is_told part olds news b (next_of b numbered).0 then b ∷ [] else []) ++ told part olds news live (next_of b numbered).1
