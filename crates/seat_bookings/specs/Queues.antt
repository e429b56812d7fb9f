-- Waiting lists.
use Rattle.std.specs.Prelude.{ℕ, Bool, false, ◌==◌, nat_le, List, [], ◌∷◌, Option, drop, filter, position, if◌then◌else◌}
use Rattle.seat_nesting.specs.Nesting.{Ladders, Table, room}
use Rattle.seat_rules.specs.declared.booking.Booking.{Booking}
use Rattle.seat_rules.specs.Bookings.{is_waiting}

-- what a waiting list shows: its bookings in order of number, and whether there is memory for one more
pub record Waitlist : Type 0 where
  pub bookings : List Booking
  pub spare : Bool

-- the booking has at most the seats that the table leaves room for
abbrev pub fits : Ladders → Table → Booking → Bool
fits grid seats b = nat_le b.seats (room grid seats b.place b.class)

-- how far behind an index the first booking stands that fits
abbrev pub next_fit : Ladders → Table → List Booking → ℕ → Option ℕ
next_fit grid seats queue from = position (fits grid seats) (drop from queue)

-- the bookings that wait, in order
abbrev pub queue_of : List Booking → List Booking
queue_of bookings = filter (λ b. is_waiting b.status) bookings

-- the first booking that passes the test waits
abbrev pub first_waits : (Booking → Bool) → List Booking → Bool
first_waits test [] = false
first_waits test (b ∷ bs) = (if test b then is_waiting b.status else first_waits test bs)

-- the list without the booking of this number
abbrev pub without : List Booking → ℕ → List Booking
without [] number = []
without (b ∷ bs) number = (if b.number == number then bs else b ∷ without bs number)
