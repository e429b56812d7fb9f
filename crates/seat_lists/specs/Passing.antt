-- The order in which those who wait are confirmed, and that each lacks seats until then.
use Rattle.std.specs.Prelude.{◌≡◌, ◌<◌, ◌⊎◌, List, [], ◌∷◌, filter}
use Rattle.std.specs.List.{AllByRecursion}
use Rattle.seat_nesting.specs.Nesting.{Ladders}
use Rattle.seat_journal.specs.declared.entry.Advice.{Advice}
use Rattle.seat_journal.specs.declared.entry.Entry.{Entry}
use Rattle.seat_rules.specs.Bookings.{is_waiting}
use Rattle.seat_rules.specs.Journal.{replay}
use Rattle.seat_rules.specs.Sequential.{advice_of, pass}
use Rattle.seat_rules.specs.declared.booking.Booking.{Booking}
use Rattle.seat_lists.specs.Waiting.{lacked}

-- those who wait, as they stand: in order of number
abbrev pub waiting_of : List Booking → List Booking
waiting_of bookings = filter (λ b. is_waiting b.status) bookings

-- the advices are to some of these bookings, in their order
abbrev pub AreInOrder : List Advice → List Booking → Type 0
AreInOrder [] bookings = Unit {0}
AreInOrder (a ∷ advices) [] = ⊥
AreInOrder (a ∷ advices) (b ∷ bookings) =
    ((a ≡ advice_of b) × AreInOrder advices bookings) ⊎ AreInOrder (a ∷ advices) bookings

-- whatever the limits are, a pass confirms some of those who wait, in the order in which they are listed
abbrev pub PassesGoInOrder : Type 0
PassesGoInOrder = (grid : Ladders) (bookings : List Booking) →
    AreInOrder (pass grid [] [] bookings).advices (waiting_of bookings)

-- whoever waits after a journal lacks at least one seat
abbrev pub WaitersLackSeats : Type 0
WaitersLackSeats = (grid : Ladders) (journal : List Entry) →
    AllByRecursion (λ b. 0 < lacked (replay grid journal) b) (waiting_of (replay grid journal).bookings)
