-- The laws of carrying.
use Rattle.std.specs.Prelude.{◌≡◌, ◌≢◌, ◌≤◌, ◌<◌, ℕ, List, [], None, codes}
use Rattle.std.specs.List.{AllByRecursion}
use Rattle.seat_journal.specs.declared.entry.Work.TheVariants.{Seats}
use Rattle.seat_nesting.specs.Nesting.{ByClass, IsNotRising, Ladders, Steps, held_from}
use Rattle.seat_rules.specs.declared.booking.Booking.{Booking}
use Rattle.seat_rules.specs.declared.booking.Status.TheVariants.{Held}
use Rattle.seat_rules.specs.Sequential.{NoneFits, State, answer, booking_for, room_left, state_of}
use Rattle.seat_carrying.specs.Carrying.{AreCarried, HasRoomFor, anew, asked_from, command_for, in_turn}
use Rattle.seat_carrying.specs.Lifting.{HasRoomAt, lifted}

-- where there is room for all, all are carried
abbrev pub NobodyLoses : Type 0
NobodyLoses = (grid : Ladders) (bookings : List Booking) (line : ℕ) → HasRoomFor grid bookings
    → AreCarried line (in_turn bookings) (asked_from (state_of grid []) line (in_turn bookings)).bookings

-- over limits under which none of those that wait fits, as after any line, nothing changes but the numbers
abbrev pub CarryIsIdentity : Type 0
CarryIsIdentity = (grid : Ladders) (bookings : List Booking) (line : ℕ) → HasRoomFor grid bookings
    → NoneFits grid bookings
    → asked_from (state_of grid []) line (in_turn bookings) ≡ state_of grid (anew line (in_turn bookings))

-- limits that nest, lifted to what is held and what waits, have room for it, where the leg has that many seats and at most 999 wait in a class
abbrev pub LiftedHasRoom : Type 0
LiftedHasRoom = (top : ℕ) (steps : Steps) (seats waits : ByClass) → IsNotRising steps
    → AllByRecursion (λ s. (s.limit ≤ top) × (s.wait ≤ 999)) steps → held_from seats steps ≤ top
    → ((class : ℕ) → waits class ≤ 999)
    → HasRoomAt steps (lifted top seats waits steps) seats waits

-- who held a seat and holds none found no room behind those that were asked ahead
abbrev pub WhoLosesFoundNoRoom : Type 0
WhoLosesFoundNoRoom = (s : State) (line : ℕ) (b : Booking) → b.status ≡ Held → booking_for s (command_for b) b.place ≡ None
    → (answer s line (Seats (command_for b))).reply ≢ codes "KK" → room_left s b.place b.class < b.seats
