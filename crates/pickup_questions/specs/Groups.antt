-- Rows of pickup in groups, and what the rows of each group come to.
use Rattle.std.specs.Prelude.{◌≡◌, ◌<◌, ℕ, ◌-◌, ◌==◌, List, [], ◌∷◌, length, slice_get, slice_index_or, unwrap_or, if◌then◌else◌}
use Rattle.std.specs.List.{sum_by}
use Rattle.ssim_flights.specs.declared.flight.DatedLeg.{DatedLeg}
use Rattle.ssim_flights.specs.declared.flight.Flight.{Flight as Flown}
use Rattle.seat_pickup.specs.declared.classes.Pickup.{Pickup}
use Rattle.pickup_questions.specs.declared.groups.Groups.{Groups}
use Rattle.pickup_questions.specs.declared.groups.Groups.TheVariants.{Flights, Classes, Given}
use Rattle.pickup_questions.specs.declared.groups.Move.{Move}
use Rattle.pickup_questions.specs.declared.groups.Move.TheVariants.{Before, Sold, Cancelled, Confirmed, Held}
use Rattle.pickup_questions.specs.declared.moved.Moved.{Moved}
use Rattle.seat_pickup.specs.declared.moved.MoveSums.{MoveSums}

abbrev pub move_of : Move → Pickup → ℕ
move_of Before p = p.before
move_of Sold p = p.sold
move_of Cancelled p = p.cancelled
move_of Confirmed p = p.confirmed
move_of Held p = p.held

-- ---- groups

-- its flight, its class from A, or what its flight is given: of a flight beyond the list a group that no list has
abbrev pub by_flight : Pickup → ℕ
by_flight p = p.flight

abbrev pub by_class : Pickup → ℕ
by_class p = p.class - 65

abbrev pub given_to : List ℕ → ℕ → ℕ
given_to given flight = unwrap_or (slice_get given flight) 4294967295

abbrev pub by_given : List ℕ → Pickup → ℕ
by_given given p = given_to given p.flight

abbrev pub group_of : Groups → Pickup → ℕ
group_of Flights p = by_flight p
group_of Classes p = by_class p
group_of (Given given) p = by_given given.now p

-- a row counts in its own group alone
abbrev pub counts_in : (Pickup → ℕ) → ℕ → Move → Pickup → ℕ
counts_in group k of p = (if k == group p then move_of of p else 0)

-- what the rows of a group come to
abbrev pub sum_in : (Pickup → ℕ) → ℕ → Move → List Pickup → ℕ
sum_in group k of all = sum_by (counts_in group k of) all

-- the list has what the rows of each of so many groups come to
pub record AreMoved (group : Pickup → ℕ) (count : ℕ) (of : Move) (all : List Pickup) (row : List ℕ) : Type 0 where
  pub counted : length row ≡ count
  pub each : (k : ℕ) → k < count → slice_index_or row k 0 ≡ sum_in group k of all

-- the sums are those of the rows in their groups
pub record AreSums (moved : Moved) : Type 0 where
  pub before : AreMoved (group_of moved.groups) moved.count Before moved.all.now moved.before.items
  pub sold : AreMoved (group_of moved.groups) moved.count Sold moved.all.now moved.sold.items
  pub cancelled : AreMoved (group_of moved.groups) moved.count Cancelled moved.all.now moved.cancelled.items
  pub confirmed : AreMoved (group_of moved.groups) moved.count Confirmed moved.all.now moved.confirmed.items
  pub held : AreMoved (group_of moved.groups) moved.count Held moved.all.now moved.held.items

-- all that the rows of a group come to
abbrev pub sums_in : (Pickup → ℕ) → ℕ → List Pickup → MoveSums
sums_in group k all = record {
  before = sum_in group k Before all;
  sold = sum_in group k Sold all;
  cancelled = sum_in group k Cancelled all;
  confirmed = sum_in group k Confirmed all;
  held = sum_in group k Held all;
}

-- ---- the days of flights

-- the day on which a flight's first leg departs, counted from an earlier one
abbrev pub start_group : ℕ → List DatedLeg → ℕ
start_group first [] = 0
start_group first (leg ∷ legs) = leg.day - first

abbrev pub start_groups : ℕ → List Flown → List ℕ
start_groups first [] = []
start_groups first (flight ∷ flights) = start_group first flight.legs ∷ start_groups first flights
