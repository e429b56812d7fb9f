-- Which legs a page shows in a class, and how full the class is on each.
use Rattle.std.specs.Prelude.{ℕ, ◌+◌, ◌==◌, ◌&&◌, if◌then◌else◌, List, [], ◌∷◌, ◌++◌, Option, Some, None, option_map, slice_get}
use Rattle.ssim_flights.specs.declared.flight.DatedLeg.{DatedLeg}
use Rattle.ssim_flights.specs.declared.flight.Flight.{Flight as Flown}
use Rattle.seat_nesting.specs.Nesting.{ByClass, Steps, held_from, ladder_at}
use Rattle.seat_rules.specs.Bookings.{held}
use Rattle.seat_rules.specs.Sequential.{State}
use Rattle.seat_lists.specs.Picking.{keeps_flight}
use Rattle.seat_loads.specs.Legs.{is_kept}
use Rattle.seat_loads.specs.declared.loads.LoadsOf.{LoadsOf}
use Rattle.load_pages.specs.declared.load.LegLoad.{LegLoad}
use Rattle.page_questions.specs.Each.{of_each}
use Rattle.page_questions.specs.declared.shown.Standing.{Standing}

-- the class in a ladder: the seats that are held in it and those below, and its limit
abbrev pub standing : ByClass → ℕ → Steps → Option Standing
standing seats class [] = None
standing seats class (step ∷ lower) =
    (if step.class == class then Some (record { held = held_from seats (step ∷ lower); limit = step.limit })
    else standing seats class lower)

abbrev pub standing_on : State → ℕ → ℕ → ℕ → Option Standing
standing_on s class i j = standing (held s.bookings i j) class (ladder_at s.grid i j)

abbrev pub load_of : Flown → DatedLeg → Standing → LegLoad
load_of flight leg at = record {
  airline = flight.airline;
  number = flight.number;
  suffix = flight.suffix;
  board = leg.board;
  off = leg.off;
  day = leg.day;
  held = at.held;
  limit = at.limit;
}

-- a leg of a flight, if both are kept and it has the class
abbrev pub shown_leg : LoadsOf → State → ℕ → ℕ → ℕ → Flown → DatedLeg → Option LegLoad
shown_leg asked s class j i flight leg =
    (if keeps_flight asked.flight flight && is_kept asked leg then option_map (load_of flight leg) (standing_on s class i j) else None)

abbrev pub shown_by : LoadsOf → State → ℕ → ℕ → ℕ → Flown → Option DatedLeg → Option LegLoad
shown_by asked s class j i flight None = None
shown_by asked s class j i flight (Some leg) = shown_leg asked s class j i flight leg

-- that of this number, from 0, if the flight has one
abbrev pub shown : LoadsOf → State → ℕ → ℕ → ℕ → Flown → Option LegLoad
shown asked s class j i flight = shown_by asked s class j i flight (slice_get flight.legs j)

abbrev pub if_shown : Option LegLoad → List LegLoad
if_shown None = []
if_shown (Some load) = load ∷ []

-- those of flights that are counted from i
abbrev pub shown_from : (ℕ → Flown → Option LegLoad) → ℕ → List Flown → List LegLoad
shown_from of i [] = []
shown_from of i (flight ∷ flights) = if_shown (of i flight) ++ shown_from of (i + 1) flights

-- the first legs of all flights, then the second ones, and so on to the eighth
unfoldable pub shown_legs : LoadsOf → State → List Flown → ℕ → List LegLoad
shown_legs asked s flights class = of_each (λ j. shown_from (shown asked s class j) 0 flights) 8 0
