-- What a pass tells, by a table of held seats alone.
use Rattle.std.specs.Prelude.{◌≡◌, ℕ, ◌+◌, ◌&&◌, nat_le, false, List, [], ◌∷◌, if◌then◌else◌}
use Rattle.seat_nesting.specs.Nesting.{Ladders, Table, has_class, ladder_at, room, seats_at}
use Rattle.seat_rules.specs.declared.booking.Booking.{Booking}
use Rattle.seat_journal.specs.declared.entry.Advice.{Advice}
use Rattle.seat_rules.specs.Bookings.{held, is_waiting}
use Rattle.seat_rules.specs.Sequential.{advice_of}

-- no seat is held
abbrev pub nothing_held : Table
nothing_held flight leg k = 0

-- one advice more
abbrev pub with_advice : Table → Advice → Table
with_advice table a flight leg k = table flight leg k + seats_at a.place a.class a.seats flight leg k

-- the advices of a pass by a table of held seats alone: of these bookings, in order, each that waits and fits
abbrev pub advices_by : Ladders → Table → List Booking → List Advice
advices_by grid table [] = []
advices_by grid table (b ∷ bs) =
    (if is_waiting b.status && nat_le b.seats (room grid table b.place b.class)
    then advice_of b ∷ advices_by grid (with_advice table (advice_of b)) bs
    else advices_by grid table bs)

-- what a pass tells of one booking
abbrev pub told_of : Ladders → Table → Booking → List Advice
told_of grid table b =
    (if is_waiting b.status && nat_le b.seats (room grid table b.place b.class) then advice_of b ∷ [] else [])

-- no seat is held in a class that a leg lacks
abbrev pub Lacks : Ladders → List Booking → Type 0
Lacks grid bookings = (flight leg class : ℕ) → has_class (ladder_at grid flight leg) class ≡ false
    → held bookings flight leg class ≡ 0
