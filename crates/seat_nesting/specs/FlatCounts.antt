-- Counters in one run of numbers: each leg has a part of the run, behind those of the legs before it.
use Rattle.std.specs.Prelude.{◌≡◌, ℕ, ◌+◌, ◌<◌, ◌≤◌, nat_lt, List, [], ◌∷◌, ◌++◌, length, drop, map, take, Option, Some, None, slice_get, if◌then◌else◌}
use Rattle.std.specs.List.{flat_map}
use Rattle.seat_nesting.specs.Nesting.{Steps, Ladders, IsLegLadder, steps_at}
use Rattle.seat_nesting.specs.OwnLadders.{CountedLeg, pool_of, steps_by, may_come}
use Rattle.seat_nesting.specs.declared.counted_flights.LegPart.{LegPart}
use Rattle.seat_nesting.specs.declared.counted_flights.FlightPart.{FlightPart}
use Rattle.seat_nesting.specs.declared.laid_out.Layout.{Layout}
use Rattle.seat_nesting.specs.declared.limits.Limits.TheVariants.{Absent, Shared}

-- n of these, from a place on
abbrev pub part : {X : Type 0} → List X → ℕ → ℕ → List X
part xs from n = take n (drop from xs)

-- each begins where the one before it ends, from one place to another
abbrev pub Follow : {X : Type 0} → (X → ℕ) → (X → ℕ) → ℕ → List X → ℕ → Type 0
Follow start size from [] end = from ≡ end
Follow start size from (x ∷ xs) end = (start x ≡ from) × Follow start size (from + size x) xs end

-- ---- what is counted

-- the numbers of a leg
abbrev pub held_in : List ℕ → LegPart → List ℕ
held_in run leg = part run leg.start leg.ranks

abbrev pub counted_by : List ℕ → LegPart → CountedLeg
counted_by run leg = record { limits = leg.limits; held = held_in run leg }

-- the legs of a flight
abbrev pub legs_by : List ℕ → List LegPart → FlightPart → List CountedLeg
legs_by run legs flight = map (counted_by run) (part legs flight.first flight.legs)

-- the legs of all flights
abbrev pub flights_by : List ℕ → List LegPart → List FlightPart → List (List CountedLeg)
flights_by run legs flights = map (legs_by run legs) flights

-- ---- where a leg is

abbrev pub index_on : Option FlightPart → ℕ → Option ℕ
index_on None leg = None
index_on (Some flight) leg = (if nat_lt leg flight.legs then Some (flight.first + leg) else None)

-- which of all legs this one of a flight is, where it is there
abbrev pub leg_index : List FlightPart → ℕ → ℕ → Option ℕ
leg_index flights flight leg = index_on (slice_get flights flight) leg

abbrev pub no_part : LegPart
no_part = record { start = 0; ranks = 0; limits = Absent }

abbrev pub no_flight : FlightPart
no_flight = record { first = 0; legs = 0 }

-- ---- how they lie

abbrev pub LegsFollow : List LegPart → ℕ → Type 0
LegsFollow legs end = Follow (λ (l : LegPart). l.start) (λ (l : LegPart). l.ranks) 0 legs end

abbrev pub FlightsFollow : List FlightPart → ℕ → Type 0
FlightsFollow flights end = Follow (λ (f : FlightPart). f.first) (λ (f : FlightPart). f.legs) 0 flights end

-- the legs have the run among them, and the flights have the legs
pub record AreLaidOut (run : List ℕ) (legs : List LegPart) (flights : List FlightPart) : Type 0 where
  pub legs_follow : LegsFollow legs (length run)
  pub flights_follow : FlightsFollow flights (length legs)

-- ---- the legs of a grid

-- a leg with these steps, which stand among the shared ladders
pub record IsFor (shared : List Steps) (leg : LegPart) (steps : Steps) : Type 0 where
  pub steps_are : steps_by (pool_of shared []) leg.limits ≡ steps
  pub ladder : IsLegLadder steps
  pub ranks : leg.ranks ≡ length steps
  pub inside : (i : ℕ) → leg.limits ≡ Shared i → i < length shared
  pub come : may_come leg.limits ≡ 1

-- a leg for each of these
abbrev pub AreFor : List Steps → List LegPart → List Steps → Type 0
AreFor shared [] [] = Unit {0}
AreFor shared (leg ∷ legs) (steps ∷ more) = IsFor shared leg steps × AreFor shared legs more
AreFor shared [] (steps ∷ more) = ⊥
AreFor shared (leg ∷ legs) [] = ⊥

-- some more, behind those that were there
pub record Grows (old new : List Steps) : Type 0 where
  pub longer : length old ≤ length new
  pub same : (i : ℕ) → i < length old → steps_at new i ≡ steps_at old i

-- no leg is added
pub record HasSameLegs (old new : Layout) : Type 0 where
  pub legs : new.legs.items ≡ old.legs.items
  pub numbers : new.numbers ≡ old.numbers

-- legs for these steps are added
pub record AddsLegs (old new : Layout) (more : List Steps) : Type 0 where
  pub legs_are : (done : List Steps) → AreFor old.shared.items old.legs.items done
      → AreFor new.shared.items new.legs.items (done ++ more)
  pub legs_follow : LegsFollow old.legs.items old.numbers → LegsFollow new.legs.items new.numbers
  pub count : length new.legs.items ≡ length old.legs.items + length more

-- the legs of a grid, one behind the other
abbrev pub all_legs : Ladders → List Steps
all_legs grid = flat_map (λ legs. legs) grid

-- the legs and the flights of a grid
pub record IsLaid (layout : Layout) (grid : Ladders) : Type 0 where
  pub legs_are : AreFor layout.shared.items layout.legs.items (all_legs grid)
  pub legs_follow : LegsFollow layout.legs.items layout.numbers
  pub flights_follow : FlightsFollow layout.flights.items (length layout.legs.items)
  pub sizes : map (λ (f : FlightPart). f.legs) layout.flights.items ≡ map (λ (legs : List Steps). length legs) grid

-- the steps of a leg that has a shared ladder or none
abbrev pub leg_steps : List Steps → LegPart → Steps
leg_steps shared leg = steps_by (pool_of shared []) leg.limits

abbrev pub flights_in : List Steps → List LegPart → List FlightPart → Ladders
flights_in shared legs flights =
    map (λ (f : FlightPart). part (map (leg_steps shared) legs) f.first f.legs) flights

-- the steps of the legs of each flight
abbrev pub grid_in : Layout → Ladders
grid_in layout = flights_in layout.shared.items layout.legs.items layout.flights.items
