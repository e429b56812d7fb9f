-- In what two flights of one name differ.
use Rattle.std.specs.Prelude.{ℕ, ◌+◌, ◌==◌, nat_eq, Bool, true, false, not, ◌&&◌, ◌||◌, if◌then◌else◌, List, [], ◌∷◌, Option, Some, None, slice_get}
use Rattle.std.specs.Cmp.Lexicographic.{pointwise}
use Rattle.ssim_flights.specs.declared.flight.DatedLeg.{DatedLeg}
use Rattle.ssim_flights.specs.declared.flight.Flight.{Flight as Flown}
use Rattle.seat_nesting.specs.Nesting.{Ladders, Steps, ladder_at}
use Rattle.seat_nesting.specs.declared.ladder.Step.{Step}
use Rattle.season_changes.specs.declared.differing.What.{What}
use Rattle.season_changes.specs.declared.differing.What.TheVariants.{Changed}

-- ---- legs

-- from the same station to the same, on the same local day
abbrev pub same_leg : DatedLeg → DatedLeg → Bool
same_leg a b = pointwise nat_eq a.board b.board && (pointwise nat_eq a.off b.off && (a.day == b.day))

-- as many legs, each the same as the other at its place
abbrev pub same_legs : List DatedLeg → List DatedLeg → Bool
same_legs [] [] = true
same_legs [] (b ∷ others) = false
same_legs (a ∷ legs) [] = false
same_legs (a ∷ legs) (b ∷ others) = same_leg a b && same_legs legs others

-- one of the legs departs at another local time of day than the one at its place
abbrev pub times_differ : List DatedLeg → List DatedLeg → Bool
times_differ [] others = false
times_differ (a ∷ legs) [] = false
times_differ (a ∷ legs) (b ∷ others) = not (a.time == b.time) || times_differ legs others

-- the legs of a flight; none where it is not there
abbrev pub legs_by : Option Flown → List DatedLeg
legs_by None = []
legs_by (Some flight) = flight.legs

abbrev pub legs_at : List Flown → ℕ → List DatedLeg
legs_at flights k = legs_by (slice_get flights k)

-- ---- ladders

abbrev pub same_mark : Bool → Bool → Bool
same_mark true b = b
same_mark false b = not b

-- the same class, limit and wait, and the same mark of the wait; no limit row closes a class
abbrev pub same_step : Step → Step → Bool
same_step a b = (a.class == b.class) && ((a.limit == b.limit) && ((a.wait == b.wait) && same_mark a.listed b.listed))

-- as many steps, each the same as the other at its rank
abbrev pub same_ladder : Steps → Steps → Bool
same_ladder [] [] = true
same_ladder [] (b ∷ others) = false
same_ladder (a ∷ steps) [] = false
same_ladder (a ∷ steps) (b ∷ others) = same_step a b && same_ladder steps others

-- one of these legs of flight i, counted from j, has another ladder than the leg at its place of flight k of the other grid
abbrev pub ladders_differ : Ladders → ℕ → Ladders → ℕ → ℕ → List DatedLeg → Bool
ladders_differ old i new k j [] = false
ladders_differ old i new k j (leg ∷ legs) =
    not (same_ladder (ladder_at old i j) (ladder_at new k j)) || ladders_differ old i new k (j + 1) legs

-- ---- what becomes of the flight

-- nothing, where neither the legs nor their times nor the limits differ
abbrev pub differing : Bool → Bool → Bool → Option What
differing legs times limits = (if legs || (times || limits) then Some (Changed legs times limits) else None)
