-- What is closed again is there.
use Rattle.std.proofs.Common.{◌≡◌, ◌==◌, ◌&&◌, ◌<◌, ℕ, zero, suc, Bool, true, false, List, [], ◌∷◌, ◌++◌, length, flat_map, option_to_list, Option, Some, None, if◌then◌else◌, arith, refl}
use Rattle.std.specs.List.{All, AllByRecursion}
use Rattle.std.proofs.lemmas.List.Elements.{All-append, All-nil, All-from_recursion}
use Rattle.airline_base.proofs.Tests.{both_true}
use Rattle.airline_base.specs.declared.place.Place.{Place}
use Rattle.ssim_flights.specs.Places.{place_wanted}
use Rattle.ssim_flights.specs.declared.flight.Flight.{Flight as Flown}
use Rattle.seat_nesting.specs.Nesting.{Ladders, Steps, has_class, ladder_at, legs_of, steps_at}
use Rattle.seat_nesting.specs.declared.ladder.Step.{Step}
use Rattle.limit_changes.specs.Legs.{kept_legs}
use Rattle.limit_changes.specs.declared.legs.NamedLeg.{NamedLeg}
use Rattle.carry_lines.specs.Setting.{FitsMark}
use Rattle.carry_lines.specs.declared.mark.Mark.{Mark}
use Rattle.carry_marks.specs.Marks.{every_leg, has_leg_with, mark_of, mark_on, marks, marks_on_leg, marks_on_legs, wish_of}

-- a leg that has a class is there
leg_there : (legs : List Steps) (leg class : ℕ) → has_class (steps_at legs leg) class ≡ true → leg < length legs
leg_there [] leg class has = absurd cc
leg_there (steps ∷ legs) zero class has = omega arith
leg_there (steps ∷ legs) (suc leg) class has = let e = leg_there legs leg class has in omega arith

on_fits : (grid : Ladders) (class : ℕ) (found : Option Place) → All (FitsMark grid) (option_to_list (mark_on grid class found))
on_fits grid class None = All-nil (FitsMark grid)
on_fits grid class (Some p) = cases (has_leg_with grid class p) refl where
  cases : (t : Bool) → has_leg_with grid class p ≡ t → All (FitsMark grid) (option_to_list (mark_on grid class (Some p)))
  cases true e =
      let has : has_class (ladder_at grid p.flight p.from) class ≡ true = (both_true (p.from == p.to) (has_class (ladder_at grid p.flight p.from) class) e).1 in
      rw e (All-from_recursion (FitsMark grid) (record { flight = p.flight; leg = p.from; class = class } ∷ [])
      (leg_there (legs_of grid p.flight) p.from class has, tt))
  cases false e = rw e (All-nil (FitsMark grid))

steps_fit : (new : List Flown) (grid : Ladders) (leg : NamedLeg) (steps : Steps)
    → All (FitsMark grid) (flat_map (λ s. option_to_list (mark_of new grid leg s)) steps)
steps_fit new grid leg [] = All-nil (FitsMark grid)
steps_fit new grid leg (s ∷ steps) =
    All-append (FitsMark grid) (option_to_list (mark_of new grid leg s)) (flat_map (λ x. option_to_list (mark_of new grid leg x)) steps)
    (one s.closed) (steps_fit new grid leg steps)
  where
    one : (t : Bool) → All (FitsMark grid) (option_to_list (if t then mark_on grid s.class (place_wanted new (wish_of leg)) else None))
    one true = on_fits grid s.class (place_wanted new (wish_of leg))
    one false = All-nil (FitsMark grid)

legs_fit : (limits : Ladders) (new : List Flown) (grid : Ladders) (legs : List NamedLeg) → All (FitsMark grid) (marks_on_legs limits new grid legs)
legs_fit limits new grid [] = All-nil (FitsMark grid)
legs_fit limits new grid (leg ∷ legs) =
    All-append (FitsMark grid) (marks_on_leg limits new grid leg) (marks_on_legs limits new grid legs)
    (steps_fit new grid leg (ladder_at limits leg.flight leg.leg)) (legs_fit limits new grid legs)

pub all_fit : (flights : List Flown) (limits : Ladders) (new : List Flown) (grid : Ladders) → All (FitsMark grid) (marks flights limits new grid)
all_fit flights limits new grid = legs_fit limits new grid (kept_legs every_leg flights)
