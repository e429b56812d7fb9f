-- A ladder for each leg of each flight.
use Rattle.std.specs.Prelude.{◌≡◌, ℕ, List, [], ◌∷◌, length, Option, Some, None, slice_get}
use Rattle.ssim_flights.specs.declared.flight.DatedLeg.{DatedLeg}
use Rattle.ssim_flights.specs.declared.flight.Flight.{Flight as Flown}
use Rattle.seat_nesting.specs.Nesting.{Ladders, Steps, legs_of}
use Rattle.limit_changes.specs.Legs.{each_from}

abbrev pub leg_ladder : (ℕ → Steps) → ℕ → DatedLeg → List Steps
leg_ladder rule n leg = rule n ∷ []

-- those that a rule gives to the legs of a flight, by their numbers
abbrev pub leg_ladders : (ℕ → Steps) → List DatedLeg → List Steps
leg_ladders rule legs = each_from (leg_ladder rule) 0 legs

abbrev pub flight_ladders : (ℕ → ℕ → Steps) → ℕ → Flown → Ladders
flight_ladders rule n flight = leg_ladders (rule n) flight.legs ∷ []

-- those that a rule gives to the legs of all flights, by the numbers of both
abbrev pub ladders_by : (ℕ → ℕ → Steps) → List Flown → Ladders
ladders_by rule flights = each_from (flight_ladders rule) 0 flights

-- ---- limits of these flights

abbrev pub run_in : Option Flown → List DatedLeg
run_in None = []
run_in (Some flight) = flight.legs

-- the legs of one of these flights; none where it is not there
abbrev pub run_of : List Flown → ℕ → List DatedLeg
run_of flights flight = run_in (slice_get flights flight)

-- of each flight there are as many legs
pub record HasLegsOf (grid : Ladders) (flights : List Flown) : Type 0 where
  pub each : (flight : ℕ) → length (legs_of grid flight) ≡ length (run_of flights flight)
