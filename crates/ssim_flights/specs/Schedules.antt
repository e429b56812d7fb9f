-- The dated flights of a chain of legs.
use Rattle.std.specs.Prelude.{◌≡◌, ℕ, ◌+◌, ◌-◌, ◌<◌, ◌≤◌, ◌==◌, nat_lt, nat_le, Bool, true, false, ◌&&◌, is_none, if◌then◌else◌, List, [], ◌∷◌, Option, Some, None, map, filter, length, All, min, slice_index, unwrap_or, unsigned_abs, ℤ, pos, ◌+ℤ◌}
use Rattle.std.specs.Int.{int_div_euclid, int_rem_euclid}
use Rattle.std.specs.Option.{option_or}
use Rattle.std.specs.List.{list_any, range_with_len}
use Rattle.ssim_records.specs.declared.carrier.Carrier.{Carrier}
use Rattle.ssim_records.specs.declared.carrier.Leg.{Leg}
use Rattle.ssim_flights.specs.declared.flight.DatedLeg.{DatedLeg}
use Rattle.ssim_flights.specs.declared.flight.Flight.{Flight}
use Rattle.ssim_flights.specs.declared.plan.Plan.{Plan}
use Rattle.ssim_flights.specs.declared.schedule.Scheduled.{Scheduled}
use Rattle.ssim_flights.specs.Operating.{operating_days, operation}

-- ---- the horizon

-- `days` days from the first one on, where an open end is the carrier's, or else the last day of the horizon (an own rule)
unfoldable pub plan_of : Carrier → ℕ → ℕ → ℕ → Plan
plan_of carrier first days most = record {
  airline = carrier.airline;
  local = carrier.local;
  first = first;
  last = first + days - 1;
  end = unwrap_or carrier.to (first + days - 1);
  most = most;
}

-- ---- local days

-- how many days the local day of departure lies after the operating day: the departure date variation, and in UTC
-- also what the local time of departure crosses (own rules)
abbrev pub days_after : Bool → Leg → ℤ
days_after true leg = leg.shift
days_after false leg = leg.shift +ℤ int_div_euclid (pos leg.std +ℤ leg.offset) (pos 1440)

-- the local time of departure, in minutes of the day: the record's own, and in UTC with the UTC/local variation
abbrev pub local_time : Bool → Leg → ℕ
local_time true leg = leg.std
local_time false leg = unsigned_abs (int_rem_euclid (pos leg.std +ℤ leg.offset) (pos 1440))

-- a leg with its operations, in order, and its local time of departure
unfoldable pub scheduled : Plan → Leg → Scheduled
scheduled plan leg = record {
  leg = leg;
  operations = map (operation (days_after plan.local leg)) (operating_days leg plan.end);
  time = local_time plan.local leg;
}

abbrev pub schedule : Plan → List Leg → List Scheduled
schedule plan legs = map (scheduled plan) legs

-- ---- the i-th operation of each leg, counted from 0

abbrev pub day_at : Scheduled → ℕ → ℕ
day_at leg i = slice_index (map (λ o. o.day) leg.operations) i

abbrev pub local_at : Scheduled → ℕ → ℕ
local_at leg i = slice_index (map (λ o. o.local) leg.operations) i

abbrev pub shortest : ℕ → List Scheduled → ℕ
shortest n [] = n
shortest n (leg ∷ legs) = shortest (min n (length leg.operations)) legs

abbrev pub is_in_horizon : Plan → ℕ → Bool
is_in_horizon plan day = nat_le plan.first day && nat_le day plan.last

-- the indices that every leg has, and at which leg 1 operates in the horizon
unfoldable pub rows : Plan → List Scheduled → List ℕ
rows plan [] = []
rows plan (leg ∷ legs) =
    filter (λ i. is_in_horizon plan (day_at leg i)) (range_with_len 0 (shortest (length leg.operations) legs))

-- each leg has an i-th operation
abbrev pub Reaches : List Scheduled → ℕ → Type 0
Reaches legs i = All (λ leg. i < length leg.operations) legs

-- ---- flights

abbrev pub dated_leg : ℕ → Scheduled → DatedLeg
dated_leg i leg = record { board = leg.leg.board; off = leg.leg.off; day = local_at leg i; time = leg.time }

abbrev pub flight_on : Plan → Leg → List Scheduled → ℕ → Flight
flight_on plan leg legs i = record {
  airline = plan.airline;
  number = leg.number;
  suffix = leg.suffix;
  legs = map (dated_leg i) legs;
}

-- the dated flights of a chain
unfoldable pub flights_on : Plan → List Scheduled → List Flight
flights_on plan [] = []
flights_on plan (leg ∷ legs) = map (flight_on plan leg.leg (leg ∷ legs)) (rows plan (leg ∷ legs))

-- ---- what can be wrong

abbrev pub differing_from : ℕ → List Scheduled → Option ℕ
differing_from n [] = None
differing_from n (leg ∷ legs) = if length leg.operations == n then differing_from n legs else Some leg.leg.serial

-- no leg has an open end, and the counts of operating days differ: the first leg that differs from leg 1
unfoldable pub differing : List Scheduled → Option ℕ
differing [] = None
differing (leg ∷ legs) =
    if list_any (λ each. is_none each.leg.to) (leg ∷ legs) then None else differing_from (length leg.operations) legs

-- a leg's local day is more than one day earlier than that of the leg before
abbrev pub falling_after : ℕ → ℕ → List Scheduled → Option ℕ
falling_after i before [] = None
falling_after i before (leg ∷ legs) =
    if nat_lt (local_at leg i + 1) before then Some leg.leg.serial else falling_after i (local_at leg i) legs

abbrev pub falling_at : List Scheduled → List ℕ → Option ℕ
falling_at legs [] = None
falling_at legs (i ∷ rows) = option_or (falling_after i 0 legs) (falling_at legs rows)

-- the local day of a leg comes again n operations later, so many days later
pub record Repeats (n later : ℕ) (leg : Scheduled) : Type 0 where
  pub at : (i : ℕ) → i + n < length leg.operations → local_at leg (i + n) ≡ local_at leg i + later

-- and those of all legs together
pub record RepeatTogether (n : ℕ) (legs : List Scheduled) : Type 0 where
  pub some : 1 ≤ n
  pub later : ℕ
  pub each : All (Repeats n later) legs

-- these indices follow one another
pub record AreNext (rows : List ℕ) : Type 0 where
  pub begin : ℕ
  pub at : (k : ℕ) → k < length rows → slice_index rows k ≡ begin + k

-- the first such leg in the horizon, by date and then by leg
unfoldable pub falling_back : Plan → List Scheduled → Option ℕ
falling_back plan legs = falling_at legs (rows plan legs)
