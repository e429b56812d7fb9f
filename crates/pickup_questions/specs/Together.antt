-- What the sums of groups come to together.
use Rattle.std.specs.Prelude.{◌≡◌, ◌<◌, ℕ, zero, suc, ◌+◌, List, length, Option}
use Rattle.std.specs.List.{AllByRecursion, sum_by}
use Rattle.ssim_flights.specs.declared.flight.Flight.{Flight as Flown}
use Rattle.seat_journal.specs.declared.entry.Entry.{Entry}
use Rattle.seat_nesting.specs.Nesting.{Ladders}
use Rattle.seat_lists.specs.declared.picking.Designator.{Designator}
use Rattle.seat_pickup.specs.Pickups.{pickups_of}
use Rattle.seat_pickup.specs.declared.classes.Pickup.{Pickup}
use Rattle.table_questions.specs.SumRows.{day_count, days_from}
use Rattle.pickup_questions.specs.Groups.{by_class, by_flight, by_given, move_of, start_groups, sum_in}
use Rattle.pickup_questions.specs.declared.groups.Move.{Move}

-- the sum over so many numbers from 0
abbrev pub sum_below : (ℕ → ℕ) → ℕ → ℕ
sum_below count zero = 0
sum_below count (suc n) = sum_below count n + count n

-- what so many groups come to is what all rows do
pub record AreTogether (group : Pickup → ℕ) (count : ℕ) (all : List Pickup) : Type 0 where
  pub each : (of : Move) → sum_below (λ k. sum_in group k of all) count ≡ sum_by (move_of of) all

-- the groups of these rows by flight, by class, and by the day on which their flight's first leg departs
pub record AreGrouped (flights : List Flown) (all : List Pickup) : Type 0 where
  pub each_flight : AreTogether by_flight (length flights) all
  pub each_class : AreTogether by_class 26 all
  pub each_day : AreTogether (by_given (start_groups (days_from flights) flights)) (day_count flights) all

abbrev pub HasLegs : Flown → Type 0
HasLegs flight = 0 < length flight.legs

-- so it is of the rows of pickup behind the first n lines of a journal
abbrev pub GroupsComeToSums : Type 0
GroupsComeToSums = (asked : Option Designator) (flights : List Flown) (grid : Ladders) (journal : List Entry) (n : ℕ)
    → AllByRecursion HasLegs flights → AreGrouped flights (pickups_of asked flights grid journal n)
