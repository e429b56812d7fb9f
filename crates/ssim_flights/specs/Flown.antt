-- The dated flights of all itineraries, and the first fault.
use Rattle.std.specs.Prelude.{◌≡◌, ◌⊎◌, ℕ, ◌+◌, ◌==◌, nat_eq, nat_lt, Bool, ◌&&◌, if◌then◌else◌, List, [], ◌∷◌, ◌++◌, Option, Some, None, map, length}
use Rattle.std.specs.Option.{option_eq, option_or}
use Rattle.std.specs.List.{list_any, flat_map}
use Rattle.ssim_records.specs.declared.carrier.Leg.{Leg}
use Rattle.ssim_flights.specs.declared.fault.FlightFault.{FlightFault}
use Rattle.ssim_flights.specs.declared.fault.FlightKind.{FlightKind}
use Rattle.ssim_flights.specs.declared.fault.FlightKind.TheVariants as kinds
use Rattle.ssim_flights.specs.declared.flight.Flight.{Flight}
use Rattle.ssim_flights.specs.declared.flown.Departure.{Departure}
use Rattle.ssim_flights.specs.declared.plan.Plan.{Plan}
use Rattle.ssim_flights.specs.declared.schedule.Scheduled.{Scheduled}
use Rattle.ssim_flights.specs.LegChains.{chain, missing_leg, repeated_leg, broken_chain, first_record_if}
use Rattle.ssim_flights.specs.Schedules.{schedule, rows, day_at, flights_on, differing, falling_back}

-- ---- one itinerary

-- the flights of an itinerary
unfoldable pub flights_of : Plan → List Leg → List Flight
flights_of plan legs = flights_on plan (schedule plan (chain legs))

abbrev pub departure : Scheduled → ℕ → Departure
departure leg i = record { number = leg.leg.number; suffix = leg.leg.suffix; day = day_at leg i }

abbrev pub same_departure : Departure → Departure → Bool
same_departure a b = (a.number == b.number) && (option_eq nat_eq a.suffix b.suffix && (a.day == b.day))

-- the flight number, suffix and first operating day of each flight of a chain
unfoldable pub departures_on : Plan → List Scheduled → List Departure
departures_on plan [] = []
departures_on plan (leg ∷ legs) = map (departure leg) (rows plan (leg ∷ legs))

-- of each flight of an itinerary
unfoldable pub departures_of : Plan → List Leg → List Departure
departures_of plan legs = departures_on plan (schedule plan (chain legs))

-- ---- faults

-- what a check found, or else what the later checks find
abbrev pub found : FlightKind → Option ℕ → Option FlightFault → Option FlightFault
found kind (Some serial) later = Some (record { serial = serial; kind = kind })
found kind None later = later

-- the serial of leg 1, where the test holds
abbrev pub leg_one_if : Bool → List Scheduled → Option ℕ
leg_one_if test [] = None
leg_one_if test (leg ∷ legs) = if test then Some leg.leg.serial else None

-- what is wrong with the days and the number of a chain's flights, F4 to F8
unfoldable pub days_fault : Plan → (Departure → Bool) → ℕ → List Leg → List Scheduled → Option FlightFault
days_fault plan taken count legs chained =
    found kinds.LegDatesDiffer (differing chained)
    (found kinds.DatesFallBack (falling_back plan chained)
    (found kinds.TwiceOnDate (leg_one_if (list_any taken (departures_on plan chained)) chained)
    (found kinds.TooManyLegs (first_record_if (nat_lt 8 (length chained)) legs)
    (found kinds.TooManyFlights (leg_one_if (nat_lt plan.most (count + length (flights_on plan chained))) chained)
    None))))

-- the first fault of an itinerary, F1 to F8, where some departures are taken and there are `count` flights already
unfoldable pub fault_of : Plan → (Departure → Bool) → ℕ → List Leg → Option FlightFault
fault_of plan taken count legs =
    found kinds.MissingLeg (missing_leg legs)
    (found kinds.RepeatedLeg (repeated_leg legs)
    (found kinds.BrokenChain (broken_chain (chain legs))
    (days_fault plan taken count legs (schedule plan (chain legs)))))

-- ---- all itineraries

-- a flight of these itineraries has the number, the suffix and the first operating day
abbrev pub is_taken : Plan → List (List Leg) → Departure → Bool
is_taken plan earlier d = list_any (same_departure d) (flat_map (departures_of plan) earlier)

-- the fault of the first itinerary that has one, each checked behind the earlier ones
abbrev pub fault_after : Plan → List (List Leg) → List (List Leg) → Option FlightFault
fault_after plan earlier [] = None
fault_after plan earlier (legs ∷ more) =
    option_or (fault_of plan (is_taken plan earlier) (length (flat_map (flights_of plan) earlier)) legs)
    (fault_after plan (earlier ++ legs ∷ []) more)

unfoldable pub first_fault : Plan → List (List Leg) → Option FlightFault
first_fault plan all = fault_after plan [] all

-- the dated flights, by itinerary and then by date
unfoldable pub dated_flights : Plan → List (List Leg) → List Flight
dated_flights plan all = flat_map (flights_of plan) all

-- their flight numbers, suffixes and first operating days
abbrev pub all_departures : Plan → List (List Leg) → List Departure
all_departures plan all = flat_map (departures_of plan) all

-- ---- refusals

abbrev pub memory_fault : FlightFault
memory_fault = record { serial = 0; kind = kinds.Memory }

-- the fault that was found, or want of memory
abbrev pub IsRefusal : FlightFault → Option FlightFault → Type 0
IsRefusal fault first = (fault ≡ memory_fault) ⊎ (first ≡ Some fault)
