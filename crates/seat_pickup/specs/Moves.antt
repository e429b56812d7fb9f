-- The seats that lines move: by flight and class, a booking's once, however many legs it has; or by flight and leg, on each of its legs.
use Rattle.std.specs.Prelude.{ℕ, ◌+◌, ◌-◌, ◌==◌, ◌&&◌, Bool, List, Option, Some, None, if◌then◌else◌}
use Rattle.std.specs.List.{sum_by}
use Rattle.airline_base.specs.declared.place.Place.{Place}
use Rattle.seat_journal.specs.declared.entry.Advice.{Advice}
use Rattle.seat_journal.specs.declared.entry.Entry.{Entry}
use Rattle.seat_journal.specs.declared.entry.Work.{Work}
use Rattle.seat_journal.specs.declared.entry.Work.TheVariants.{Seats, Limit, Sale}
use Rattle.seat_rules.specs.Bookings.{is_held}
use Rattle.seat_rules.specs.Totals.{is_confirmation, seats_asked}
use Rattle.seat_rules.specs.declared.booking.Booking.{Booking}
use Rattle.seat_questions.specs.Why.{has_leg}
use Rattle.seat_pickup.specs.declared.split.Split.{Split}
use Rattle.seat_pickup.specs.declared.split.Split.TheVariants.{Classes, Legs}

-- seats by flight and class, or by flight and leg: a class is its letter, and the legs count from 65 on
abbrev pub Counts : Type 0
Counts = ℕ → ℕ → ℕ

-- where the seats of a place and class count: at each flight and class or leg that passes
abbrev pub Where : Type 0
Where = Place → ℕ → ℕ → ℕ → Bool

-- in the class, or on each leg of the place
abbrev pub is_at : Split → Where
is_at Classes place class f k = (place.flight == f) && (class == k)
is_at Legs place class f k = (place.flight == f) && has_leg place (k - 65)

-- so many seats of a place and class, where they count, and none elsewhere
abbrev pub those : Where → Place → ℕ → ℕ → Counts
those on place class seats f k = (if on place class f k then seats else 0)

-- so many on one leg of a place, if the place covers it
abbrev pub on_leg : Place → ℕ → ℕ → Counts
on_leg place leg seats f k = (if (place.flight == f) && (65 + leg == k) && has_leg place leg then seats else 0)

-- of a place, if there is one
abbrev pub placed : Where → Option Place → ℕ → ℕ → Counts
placed on None class seats f k = 0
placed on (Some place) class seats f k = those on place class seats f k

-- where a line asks for seats; what the manager sets asks for none
abbrev pub asked : Where → Work → ℕ → Counts
asked on (Seats command) seats f k = placed on command.place command.class seats f k
asked on (Limit change) seats f k = 0
asked on (Sale change) seats f k = 0

-- those that a line sells: its reply confirms them at once
abbrev pub sold_by : Where → Entry → Counts
sold_by on e f k = (if is_confirmation e.reply then asked on e.work (seats_asked e.work) f k else 0)

-- those that it cancels: held before, and given back
abbrev pub cancelled_by : Where → Entry → Counts
cancelled_by on e f k = asked on e.work e.released f k

-- those that an advice confirms from the list
abbrev pub advised : Where → Advice → Counts
advised on a f k = those on a.place a.class a.seats f k

-- those of all items of a list
abbrev pub sum_of : {A : Type 0} → (A → Counts) → List A → Counts
sum_of moves xs f k = sum_by (λ x. moves x f k) xs

-- those that a line confirms from the list
abbrev pub confirmed_by : Where → Entry → Counts
confirmed_by on e f k = sum_of (advised on) e.advices f k

-- the seats of a booking that is held, where they count
abbrev pub holds : Where → ℕ → ℕ → Booking → ℕ
holds on f k b = (if is_held b.status && on b.place b.class f k then b.seats else 0)

-- those of all bookings
abbrev pub held_in : Where → List Booking → Counts
held_in on bookings f k = sum_by (holds on f k) bookings
