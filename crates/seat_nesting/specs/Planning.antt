-- A grid that is laid out flight by flight.
use Rattle.std.specs.Prelude.{◌≡◌, ℕ, ◌+◌, List, [], ◌∷◌, ◌++◌, length, drop, map, Option, Some, None}
use Rattle.seat_nesting.specs.Nesting.{Steps, Ladders, steps_at}
use Rattle.seat_nesting.specs.FlatCounts.{AreFor, LegsFollow, FlightsFollow, all_legs, leg_steps, grid_in}
use Rattle.seat_nesting.specs.declared.counted_flights.FlightPart.{FlightPart}
use Rattle.seat_nesting.specs.declared.laid_out.Layout.{Layout}

-- the ladders that legs may have, the flights that are closed, and the legs of the next one
pub record Planned : Type 0 where
  pub ladders : List Steps
  pub flights : Ladders
  pub legs : List Steps

abbrev pub no_plan : Planned
no_plan = record { ladders = []; flights = []; legs = [] }

-- one ladder more
abbrev pub with_ladder : Planned → Steps → Planned
with_ladder plan ladder = record { ladders = plan.ladders ++ ladder ∷ []; flights = plan.flights; legs = plan.legs }

-- the steps of the ladder of a number, where one is given
abbrev pub steps_in : List Steps → Option ℕ → Steps
steps_in ladders None = []
steps_in ladders (Some i) = steps_at ladders i

-- the next flight has a leg more
abbrev pub with_leg : Planned → Steps → Planned
with_leg plan steps = record { ladders = plan.ladders; flights = plan.flights; legs = plan.legs ++ steps ∷ [] }

-- the next flight is closed
abbrev pub with_flight : Planned → Planned
with_flight plan = record { ladders = plan.ladders; flights = plan.flights ++ plan.legs ∷ []; legs = [] }

-- ---- how it is laid out

-- what a layout says whose legs from this one on are those of the next flight
abbrev pub planned : Layout → ℕ → Planned
planned layout first =
    record {
      ladders = layout.shared.items;
      flights = grid_in layout;
      legs = drop first (map (leg_steps layout.shared.items) layout.legs.items);
    }

pub record IsPlanned (layout : Layout) (first : ℕ) (plan : Planned) : Type 0 where
  pub ladders_are : layout.shared.items ≡ plan.ladders
  pub legs_are : AreFor layout.shared.items layout.legs.items (all_legs plan.flights ++ plan.legs)
  pub legs_follow : LegsFollow layout.legs.items layout.numbers
  pub flights_follow : FlightsFollow layout.flights.items first
  pub sizes : map (λ (f : FlightPart). f.legs) layout.flights.items ≡ map (λ (legs : List Steps). length legs) plan.flights
  pub next_legs : first + length plan.legs ≡ length layout.legs.items
