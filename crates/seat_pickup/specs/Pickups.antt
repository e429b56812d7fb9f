-- What the lines behind the first ones made of each class of each flight.
use Rattle.std.specs.Prelude.{◌≡◌, ℕ, zero, suc, ◌+◌, ◌||◌, nat_lt, Bool, List, [], ◌∷◌, ◌++◌, take, drop, Option, if◌then◌else◌}
use Rattle.ssim_flights.specs.declared.flight.Flight.{Flight as Flown}
use Rattle.seat_journal.specs.declared.entry.Entry.{Entry}
use Rattle.seat_nesting.specs.Nesting.{Ladders}
use Rattle.seat_rules.specs.Journal.{IsLegal, replay}
use Rattle.seat_rules.specs.declared.booking.Booking.{Booking}
use Rattle.seat_lists.specs.Picking.{keeps_flight}
use Rattle.seat_lists.specs.declared.picking.Designator.{Designator}
use Rattle.seat_pickup.specs.Moves.{Where, cancelled_by, confirmed_by, held_in, is_at, sold_by, sum_of}
use Rattle.seat_pickup.specs.declared.split.Split.TheVariants.{Classes}
use Rattle.seat_pickup.specs.declared.moved.MoveSums.{MoveSums}
use Rattle.seat_pickup.specs.declared.moved.Moves.{Moves}
use Rattle.seat_pickup.specs.declared.classes.Pickup.{Pickup}
use Rattle.seat_pickup.specs.Counting.{AreCounts}

-- the bookings before and after these lines: what was held there, what the lines sold, cancelled and confirmed from the list, and what is held
abbrev pub moved_at : Where → List Booking → List Entry → List Booking → ℕ → ℕ → MoveSums
moved_at on before since after f k = record {
  before = held_in on before f k;
  sold = sum_of (sold_by on) since f k;
  cancelled = sum_of (cancelled_by on) since f k;
  confirmed = sum_of (confirmed_by on) since f k;
  held = held_in on after f k;
}

-- behind the first n lines of a journal
abbrev pub moved_behind : Ladders → List Entry → ℕ → Where → ℕ → ℕ → MoveSums
moved_behind grid journal n on f k =
    moved_at on (replay grid (take n journal)).bookings (drop n journal) (replay grid journal).bookings f k

-- anything was held there before, or came
abbrev pub has_any : MoveSums → Bool
has_any sums = nat_lt 0 sums.before || nat_lt 0 sums.sold || nat_lt 0 sums.confirmed

-- the rows have what these lines moved
pub record AreMoves (since : List Entry) (moves : Moves) : Type 0 where
  pub sold : AreCounts moves.flights (sum_of (sold_by (is_at moves.split)) since) moves.sold.items
  pub cancelled : AreCounts moves.flights (sum_of (cancelled_by (is_at moves.split)) since) moves.cancelled.items
  pub confirmed : AreCounts moves.flights (sum_of (confirmed_by (is_at moves.split)) since) moves.confirmed.items

-- what was held on a flight in a class, what came and went, and what is held
abbrev pub of_class : List Booking → List Entry → List Booking → ℕ → Flown → ℕ → Pickup
of_class before since after i flight class = record {
  flight = i;
  name = record { airline = flight.airline; number = flight.number; suffix = flight.suffix };
  class = class;
  before = held_in (is_at Classes) before i class;
  sold = sum_of (sold_by (is_at Classes)) since i class;
  cancelled = sum_of (cancelled_by (is_at Classes)) since i class;
  confirmed = sum_of (confirmed_by (is_at Classes)) since i class;
  held = held_in (is_at Classes) after i class;
}

-- a class in which nothing was held or came is left out
abbrev pub with_any : Pickup → List Pickup
with_any p = (if nat_lt 0 p.before || nat_lt 0 p.sold || nat_lt 0 p.confirmed then p ∷ [] else [])

-- of so many classes from one on
abbrev pub of_classes : (ℕ → Pickup) → ℕ → ℕ → List Pickup
of_classes of zero class = []
of_classes of (suc n) class = with_any (of class) ++ of_classes of n (class + 1)

-- from A to Z
unfoldable pub of_letters : (ℕ → Pickup) → List Pickup
of_letters of = of_classes of 26 65

-- of a flight that is kept
abbrev pub of_flight : Option Designator → (ℕ → Flown → ℕ → Pickup) → ℕ → Flown → List Pickup
of_flight asked of i flight = (if keeps_flight asked flight then of_letters (of i flight) else [])

-- of flights that are counted from i
abbrev pub of_flights : Option Designator → (ℕ → Flown → ℕ → Pickup) → ℕ → List Flown → List Pickup
of_flights asked of i [] = []
of_flights asked of i (flight ∷ flights) = of_flight asked of i flight ++ of_flights asked of (i + 1) flights

-- behind the first n lines of a journal
abbrev pub pickups_of : Option Designator → List Flown → Ladders → List Entry → ℕ → List Pickup
pickups_of asked flights grid journal n =
    of_flights asked (of_class (replay grid (take n journal)).bookings (drop n journal) (replay grid journal).bookings) 0 flights

-- what was held, with what was sold and confirmed and without what was cancelled, is what is held
abbrev pub MovesBalance : Type 0
MovesBalance = (on : Where) (grid : Ladders) (older since : List Entry) (f k : ℕ) → IsLegal grid (older ++ since) →
    held_in on (replay grid older).bookings f k + (sum_of (sold_by on) since f k + sum_of (confirmed_by on) since f k)
    ≡ held_in on (replay grid (older ++ since)).bookings f k + sum_of (cancelled_by on) since f k
