-- Carrying: the live bookings of one inventory are asked for anew in another, one line after the other.
use Rattle.std.specs.Prelude.{◌≡◌, ◌≤◌, ℕ, ◌+◌, ◌-◌, ◌==◌, ◌&&◌, nat_le, Bool, true, List, [], ◌∷◌, ◌++◌, filter, Some, codes, if◌then◌else◌}
use Rattle.std.specs.List.{AllByRecursion}
use Rattle.airline_base.specs.declared.place.Place.{Place}
use Rattle.seat_journal.specs.declared.entry.Command.{Command}
use Rattle.seat_journal.specs.declared.entry.Work.TheVariants.{Seats}
use Rattle.seat_nesting.specs.Nesting.{Ladders, Steps, each_leg, is_open_on, ladder_at, IsWithin}
use Rattle.seat_rules.specs.declared.booking.Booking.{Booking}
use Rattle.seat_rules.specs.declared.booking.Status.{Status}
use Rattle.seat_rules.specs.declared.booking.Status.TheVariants.{Held, Waiting}
use Rattle.seat_rules.specs.Bookings.{IsApart, held, is_held, is_waiting, waiting}
use Rattle.seat_rules.specs.Sequential.{State, answer}

-- ---- how a booking is asked for anew

-- SS for one that is held, LL for one that waits (AIRIMP)
abbrev pub code_for : Status → List ℕ
code_for Held = codes "SS"
code_for Waiting = codes "LL"

-- its seats in its class on its place, under its locator
abbrev pub command_for : Booking → Command
command_for b =
    record { locator = b.locator; place = Some b.place; class = b.class; code = code_for b.status; seats = b.seats }

abbrev pub those_held : List Booking → List Booking
those_held bookings = filter (λ b. is_held b.status) bookings

abbrev pub those_waiting : List Booking → List Booking
those_waiting bookings = filter (λ b. is_waiting b.status) bookings

-- in which order they are asked for: those that are held, then those that wait, each in order of number
abbrev pub in_turn : List Booking → List Booking
in_turn bookings = those_held bookings ++ those_waiting bookings

-- what is left when they were asked for one after the other, the first by this line
abbrev pub asked_from : State → ℕ → List Booking → State
asked_from s line [] = s
asked_from s line (b ∷ bookings) = asked_from (answer s line (Seats (command_for b))).state (line + 1) bookings

-- ---- what becomes of them

-- the booking that a line made of an old one: its seats, and held where the old one was
pub record IsCarried (line : ℕ) (old new : Booking) : Type 0 where
  pub number : new.number ≡ line
  pub locator : new.locator ≡ old.locator
  pub place : new.place ≡ old.place
  pub class : new.class ≡ old.class
  pub seats : new.seats ≡ old.seats
  pub held : old.status ≡ Held → new.status ≡ Held

-- each of the old ones has its own line's booking, in their order
abbrev pub AreCarried : ℕ → List Booking → List Booking → Type 0
AreCarried line [] [] = Unit {0}
AreCarried line [] (new ∷ news) = ⊥
AreCarried line (old ∷ olds) [] = ⊥
AreCarried line (old ∷ olds) (new ∷ news) = IsCarried line old new × AreCarried (line + 1) olds news

-- the same bookings, each under the number of its line
abbrev pub anew : ℕ → List Booking → List Booking
anew line [] = []
anew line (b ∷ bookings) = record b { number = line } ∷ anew (line + 1) bookings

-- ---- whether there is room for all

-- the wait of a class on a leg; 0 where it is missing
abbrev pub wait_of : Steps → ℕ → ℕ
wait_of [] class = 0
wait_of (s ∷ lower) class = (if s.class == class then s.wait else wait_of lower class)

-- each leg of the place has the class, and it is open
abbrev pub sells : Ladders → Place → ℕ → Bool
sells grid place class =
    nat_le place.from place.to
    && each_leg (λ leg. is_open_on (ladder_at grid place.flight leg) class) place.from (place.to - place.from)

-- the limits have room for all that these bookings hold, and for all that wait
pub record HasRoomFor (grid : Ladders) (bookings : List Booking) : Type 0 where
  pub apart : IsApart bookings
  pub placed : AllByRecursion (λ b. sells grid b.place b.class ≡ true) bookings
  pub within : (flight leg : ℕ) → IsWithin (ladder_at grid flight leg) (held bookings flight leg)
  pub listed : (flight leg class : ℕ) → waiting bookings flight leg class ≤ wait_of (ladder_at grid flight leg) class
