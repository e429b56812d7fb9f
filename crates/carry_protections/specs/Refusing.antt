-- Which rows can't be followed.
use Rattle.std.specs.Prelude.{ℕ, Bool, false, ◌&&◌, ◌||◌, List, [], ◌∷◌, Option, Some, None, if◌then◌else◌}
use Rattle.airline_base.specs.declared.place.Place.{Place}
use Rattle.ssim_flights.specs.declared.flight.Flight.{Flight as Flown}
use Rattle.seat_journal.specs.declared.entry.Entry.{Entry}
use Rattle.seat_nesting.specs.Nesting.{Ladders}
use Rattle.seat_rules.specs.Bookings.{is_for, same_place}
use Rattle.seat_rules.specs.declared.booking.Booking.{Booking}
use Rattle.seat_carrying.specs.declared.owned.Owned.{Owned}
use Rattle.carry_lines.specs.Carriable.{is_carriable}
use Rattle.carry_protections.specs.Going.{course_for, goes}
use Rattle.carry_protections.specs.declared.course.Course.{Course}

-- ---- a class that is not sold

abbrev pub lacks_at : ℕ → Ladders → Option Owned → Option ℕ
lacks_at line file None = None
lacks_at line file (Some o) = (if is_carriable file o then None else Some line)

abbrev pub lacks_by : Ladders → Option Owned → Option Course → Option ℕ
lacks_by file went None = None
lacks_by file went (Some c) = lacks_at c.line file went

-- the line of the row by which a booking goes where it can't be asked for
abbrev pub lacks : List Course → List Entry → List Flown → List Flown → ℕ → Ladders → Booking → Option ℕ
lacks courses journal old new today file b = lacks_by file (goes courses journal old new today b) (course_for courses b.place)

abbrev pub first_of : Option ℕ → Option ℕ → Option ℕ
first_of (Some n) other = Some n
first_of None other = other

-- that of the first such booking
abbrev pub lacking : List Course → List Entry → List Flown → List Flown → ℕ → Ladders → List Booking → Option ℕ
lacking courses journal old new today file [] = None
lacking courses journal old new today file (b ∷ live) =
    first_of (lacks courses journal old new today file b) (lacking courses journal old new today file live)

-- ---- a locator that has a booking there already

-- one of these has its locator, place and class
abbrev pub has_for : Booking → List Booking → Bool
has_for b [] = false
has_for b (x ∷ xs) = is_for b.locator b.place b.class x || has_for b xs

abbrev pub is_twice : Place → Booking → List Booking → Bool
is_twice place b behind = same_place b.place place && has_for b behind

-- two are on the place, of one locator and in one class
abbrev pub has_twice : Place → List Booking → Bool
has_twice place [] = false
has_twice place (b ∷ bs) = is_twice place b bs || has_twice place bs
