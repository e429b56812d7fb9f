-- The departures of the flights so far, as a set.
use Rattle.std.specs.Prelude.{◌≡◌, ◌||◌, Bool, List}
use Rattle.std.specs.List.{list_any}
use Rattle.std.specs.HashSet.{HashSet, contains}
use Rattle.std.specs.declared.hash.FoldHasher.{FoldHasher}
use Rattle.std.specs.declared.hash.BuildHasherDefault.{BuildHasherDefault}
use Rattle.ssim_flights.specs.declared.flown.Departure.{Departure}
use Rattle.ssim_flights.specs.Flown.{same_departure}

abbrev pub Departures : Type 0
Departures = HashSet Departure (BuildHasherDefault FoldHasher)

-- whether the set has a departure
abbrev pub has_departure : Departures → Departure → Bool
has_departure set d = contains same_departure set d

-- the new set has these departures and those of the old one
pub record Takes (old new : Departures) (more : List Departure) : Type 0 where
  pub at : (d : Departure) → has_departure new d ≡ (list_any (same_departure d) more || has_departure old d)
