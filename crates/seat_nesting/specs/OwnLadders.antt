-- Ladders of the counters: a leg whose limits were changed has one of its own, every other leg shares one with others.
use Rattle.std.specs.Prelude.{◌≡◌, ℕ, ◌+◌, ◌<◌, ◌≤◌, List, [], ◌∷◌, ◌++◌, length, map, unwrap_or, slice_get, slice_index_or, slice_set}
use Rattle.std.specs.List.{sum_by}
use Rattle.seat_nesting.specs.Nesting.{Steps, steps_at}
use Rattle.seat_nesting.specs.Counting.{LegSeats, Counted, IsWithinLimits}
use Rattle.seat_nesting.specs.Changing.{with_setting}
use Rattle.seat_nesting.specs.declared.limits.Limits.{Limits}
use Rattle.seat_nesting.specs.declared.setting.Setting.{Setting}
use Rattle.seat_nesting.specs.declared.limits.Limits.TheVariants.{Absent, Shared, Own}

-- ---- one leg

-- the ladders that legs share, and those of which each is one leg's alone
pub record Pool : Type 0 where
  pub shared : List Steps
  pub own : List Steps

abbrev pub pool_of : List Steps → List Steps → Pool
pool_of shared own = record { shared = shared; own = own }

-- a leg: where its limits stand, and how many seats are held in each of its ranks
pub record CountedLeg : Type 0 where
  pub limits : Limits
  pub held : List ℕ

-- the steps of a leg
abbrev pub steps_by : Pool → Limits → Steps
steps_by pool Absent = []
steps_by pool (Shared i) = steps_at pool.shared i
steps_by pool (Own i) = steps_at pool.own i

-- the own ladders, and where the leg's limits stand, once something is set on it
abbrev pub own_after : Pool → Limits → Setting → List Steps
own_after pool Absent setting = pool.own
own_after pool (Shared i) setting = pool.own ++ with_setting (steps_at pool.shared i) setting ∷ []
own_after pool (Own i) setting = slice_set pool.own i (with_setting (steps_at pool.own i) setting)

abbrev pub pool_after : Pool → Limits → Setting → Pool
pool_after pool limits setting = pool_of pool.shared (own_after pool limits setting)

abbrev pub limits_after : Pool → Limits → Limits
limits_after pool Absent = Absent
limits_after pool (Shared i) = Own (length pool.own)
limits_after pool (Own i) = Own i

-- how many own ladders the leg may yet need
abbrev pub may_come : Limits → ℕ
may_come Absent = 1
may_come (Shared i) = 1
may_come (Own i) = 0

-- the leg as it is seen
abbrev pub leg_seen : Pool → CountedLeg → LegSeats
leg_seen pool leg = record { steps = steps_by pool leg.limits; held = leg.held }

abbrev pub held_at : CountedLeg → ℕ → ℕ
held_at leg rank = slice_index_or leg.held rank 0

-- n seats are held at a rank
abbrev pub with_held : CountedLeg → ℕ → ℕ → CountedLeg
with_held leg rank n = record leg { held = slice_set leg.held rank n }

abbrev pub with_limits : CountedLeg → Limits → CountedLeg
with_limits leg limits = record leg { limits = limits }

-- ---- all legs

-- a leg that is not there
abbrev pub no_counted : CountedLeg
no_counted = record { limits = Absent; held = [] }

abbrev pub counted_in : List CountedLeg → ℕ → CountedLeg
counted_in legs leg = unwrap_or (slice_get legs leg) no_counted

abbrev pub counted_at : List (List CountedLeg) → ℕ → ℕ → CountedLeg
counted_at flights flight leg = counted_in (unwrap_or (slice_get flights flight) []) leg

abbrev pub legs_seen : Pool → List CountedLeg → List LegSeats
legs_seen pool legs = map (leg_seen pool) legs

abbrev pub all_seen : Pool → List (List CountedLeg) → Counted
all_seen pool flights = map (legs_seen pool) flights

-- this in place of a leg of a flight
abbrev pub put : List (List CountedLeg) → ℕ → ℕ → CountedLeg → List (List CountedLeg)
put flights flight leg x = slice_set flights flight (slice_set (unwrap_or (slice_get flights flight) []) leg x)

-- where the limits of each leg stand
abbrev pub limits_in : List CountedLeg → List Limits
limits_in legs = map (λ (leg : CountedLeg). leg.limits) legs

abbrev pub all_limits : List (List CountedLeg) → List (List Limits)
all_limits flights = map limits_in flights

abbrev pub limits_at : List (List Limits) → ℕ → ℕ → Limits
limits_at limits flight leg = unwrap_or (slice_get (unwrap_or (slice_get limits flight) []) leg) Absent

abbrev pub may_come_on : List Limits → ℕ
may_come_on legs = sum_by may_come legs

abbrev pub yet_to_come : List (List Limits) → ℕ
yet_to_come limits = sum_by may_come_on limits

-- n own ladders: that of each leg is there, no two legs have the same, and there are places for all that may yet come
pub record HaveOwn (n places : ℕ) (limits : List (List Limits)) : Type 0 where
  pub there : (flight leg i : ℕ) → limits_at limits flight leg ≡ Own i → i < n
  pub apart : (flight leg other at i : ℕ) → limits_at limits flight leg ≡ Own i → limits_at limits other at ≡ Own i
      → (flight ≡ other) × (leg ≡ at)
  pub reserved : n + yet_to_come limits ≤ places

-- the counters of all legs, none of which holds more than a limit; each own ladder has a number below 2^32
pub record AreCounters (pool : Pool) (places : ℕ) (flights : List (List CountedLeg)) : Type 0 where
  pub kept : IsWithinLimits (all_seen pool flights)
  pub owned : HaveOwn (length pool.own) places (all_limits flights)
  pub numbered : HaveOwn (length pool.own) 4294967295 (all_limits flights)
