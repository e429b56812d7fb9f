-- Bookings, and the seats that they hold.
use Rattle.std.specs.Prelude.{◌≡◌, ℕ, Bool, true, false, ◌&&◌, ◌==◌, nat_eq, List, [], ◌∷◌, if◌then◌else◌}
use Rattle.std.specs.List.{AllByRecursion, sum_by}
use Rattle.std.specs.Cmp.Lexicographic.{pointwise}
use Rattle.airline_base.specs.declared.place.Place.{Place}
use Rattle.seat_nesting.specs.Nesting.{Table, Steps, has_class, covers}
use Rattle.seat_rules.specs.declared.booking.Booking.{Booking}
use Rattle.seat_rules.specs.declared.booking.Status.{Status}
use Rattle.seat_rules.specs.declared.booking.Status.TheVariants.{Held, Waiting}

abbrev pub same_place : Place → Place → Bool
same_place p q = (p.flight == q.flight) && (p.from == q.from) && (p.to == q.to)

-- the booking has this locator, place and class
abbrev pub is_for : List ℕ → Place → ℕ → Booking → Bool
is_for locator place class b = pointwise nat_eq b.locator locator && same_place b.place place && (b.class == class)

-- two bookings of one locator, place and class
abbrev pub IsSameBooking : Booking → Booking → Type 0
IsSameBooking a b = (a.locator ≡ b.locator) × (a.place ≡ b.place) × (a.class ≡ b.class)

abbrev pub is_held : Status → Bool
is_held Held = true
is_held Waiting = false

abbrev pub is_waiting : Status → Bool
is_waiting Held = false
is_waiting Waiting = true

-- the seats of a booking on a leg in a class
abbrev pub seats_of : ℕ → ℕ → ℕ → Booking → ℕ
seats_of flight leg class b = (if covers flight leg b.place && (b.class == class) then b.seats else 0)

-- those that it holds
abbrev pub seats_on : ℕ → ℕ → ℕ → Booking → ℕ
seats_on flight leg class b = (if is_held b.status then seats_of flight leg class b else 0)

-- those that it holds on a leg in any of these classes
abbrev pub seats_among : Steps → ℕ → ℕ → Booking → ℕ
seats_among steps flight leg b =
    (if is_held b.status && covers flight leg b.place && has_class steps b.class then b.seats else 0)

-- those that it waits for
abbrev pub waits_on : ℕ → ℕ → ℕ → Booking → ℕ
waits_on flight leg class b = (if is_held b.status then 0 else seats_of flight leg class b)

-- the seats that are held on each leg in each class
abbrev pub held : List Booking → Table
held bookings flight leg class = sum_by (seats_on flight leg class) bookings

-- the seats that wait on each leg in each class
abbrev pub waiting : List Booking → Table
waiting bookings flight leg class = sum_by (waits_on flight leg class) bookings

-- the earlier booking x is not for what the later b is for
abbrev pub Differs : Booking → Booking → Type 0
Differs x b = is_for b.locator b.place b.class x ≡ false

-- no two have the same locator, place and class
abbrev pub IsApart : List Booking → Type 0
IsApart [] = Unit {0}
IsApart (x ∷ xs) = AllByRecursion (Differs x) xs × IsApart xs
