-- Which classes are closed again: those that are closed now, on the new leg of the same name, where its limits have the class.
use Rattle.std.specs.Prelude.{ℕ, ◌==◌, ◌&&◌, Bool, List, flat_map, option_to_list, Option, Some, None, if◌then◌else◌}
use Rattle.airline_base.specs.declared.place.Place.{Place}
use Rattle.ssim_flights.specs.Places.{place_wanted}
use Rattle.ssim_flights.specs.declared.flight.Flight.{Flight as Flown}
use Rattle.ssim_flights.specs.declared.flight.Wanted.{Wanted}
use Rattle.seat_nesting.specs.Nesting.{Ladders, has_class, ladder_at}
use Rattle.seat_nesting.specs.declared.ladder.Step.{Step}
use Rattle.limit_changes.specs.Legs.{kept_legs}
use Rattle.limit_changes.specs.declared.legs.LegsAsked.{LegsAsked}
use Rattle.limit_changes.specs.declared.legs.NamedLeg.{NamedLeg}
use Rattle.carry_lines.specs.declared.mark.Mark.{Mark}

-- ---- one class

-- what passengers call a leg: its flight, its local day, its station and the one where it arrives
abbrev pub wish_of : NamedLeg → Wanted
wish_of leg = record {
  airline = leg.name.airline;
  number = leg.name.number;
  suffix = leg.name.suffix;
  day = leg.run.day;
  board = leg.run.board;
  off = leg.run.off;
}

-- the place is one leg whose limits have the class
abbrev pub has_leg_with : Ladders → ℕ → Place → Bool
has_leg_with grid class p = (p.from == p.to) && has_class (ladder_at grid p.flight p.from) class

-- the class of the place that was found, if that is such a leg
abbrev pub mark_on : Ladders → ℕ → Option Place → Option Mark
mark_on grid class None = None
mark_on grid class (Some p) =
    (if has_leg_with grid class p then Some (record { flight = p.flight; leg = p.from; class = class }) else None)

-- where a class of a leg is closed again, if it is closed now
abbrev pub mark_of : List Flown → Ladders → NamedLeg → Step → Option Mark
mark_of new grid leg s = (if s.closed then mark_on grid s.class (place_wanted new (wish_of leg)) else None)

-- ---- all

-- those of a leg, from the highest rank down
abbrev pub marks_on_leg : Ladders → List Flown → Ladders → NamedLeg → List Mark
marks_on_leg limits new grid leg = flat_map (λ s. option_to_list (mark_of new grid leg s)) (ladder_at limits leg.flight leg.leg)

abbrev pub marks_on_legs : Ladders → List Flown → Ladders → List NamedLeg → List Mark
marks_on_legs limits new grid legs = flat_map (marks_on_leg limits new grid) legs

abbrev pub every_leg : LegsAsked
every_leg = record { flight = None; day = None; pair = None }

-- those of the legs of the flights that these limits have now, by flight and leg; a leg is one that its own name finds
abbrev pub marks : List Flown → Ladders → List Flown → Ladders → List Mark
marks flights limits new grid = marks_on_legs limits new grid (kept_legs every_leg flights)
