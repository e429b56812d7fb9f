-- The limits of all legs of a new season, lifted for the bookings that are carried into it.
use Rattle.std.specs.Prelude.{◌<◌, ℕ}
use Rattle.seat_nesting.specs.Nesting.{ByClass, IsLegLadder, Ladders, Steps, ladder_at}
use Rattle.seat_rules.specs.Bookings.{held, waiting}
use Rattle.seat_carrying.specs.Lifting.{lifted, top_of}
use Rattle.limit_changes.specs.Laws.{AreLadders}
use Rattle.carry_limits.specs.ByFlight.{Lists, list_at}
use Rattle.carry_limits.specs.Legs.{HasLegsOf, ladders_by}
use Rattle.carry_limits.specs.Wanting.{wanted_on}
use Rattle.carry_limits.specs.declared.wanting.Seasons.{Seasons}

-- what the bookings of a flight hold on a leg of it in each class, and what waits there
abbrev pub held_on : Lists → ℕ → ℕ → ByClass
held_on lists flight leg = held (list_at lists flight) flight leg

abbrev pub waits_on : Lists → ℕ → ℕ → ByClass
waits_on lists flight leg = waiting (list_at lists flight) flight leg

-- the wanted limits of a leg, each rank lifted to what is held in it and below it, as far as the file's highest rank has seats, and each wait to what waits
abbrev pub lifted_on : Seasons → Lists → ℕ → ℕ → Steps
lifted_on s lists flight leg =
    lifted (top_of (ladder_at s.file.now flight leg)) (held_on lists flight leg) (waits_on lists flight leg)
    (wanted_on s flight leg)

-- those of each leg of each flight
abbrev pub lifted_limits : Seasons → Lists → Ladders
lifted_limits s lists = ladders_by (lifted_on s lists) s.flights.now

-- where the file has limits of these flights, each of its legs has a ladder or none
pub record FileNests (s : Seasons) : Type 0 where
  pub nests : HasLegsOf s.file.now s.flights.now → AreLadders s.file.now

-- so many legs of a flight have a ladder or none
pub record LegsNest (grid : Ladders) (flight count : ℕ) : Type 0 where
  pub nests : (leg : ℕ) → leg < count → IsLegLadder (ladder_at grid flight leg)
