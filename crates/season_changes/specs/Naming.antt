-- How flights are named: by the airline, the number, the suffix and the local day of the first leg.
use Rattle.std.specs.Prelude.{◌≡◌, ℕ, ◌+◌, ◌==◌, nat_eq, Bool, false, ◌&&◌, if◌then◌else◌, List, [], ◌∷◌, Option, Some, None}
use Rattle.std.specs.Cmp.Lexicographic.{pointwise}
use Rattle.std.specs.Option.{option_eq}
use Rattle.std.specs.HashMap.{HashMap, get}
use Rattle.std.specs.declared.hash.FoldHasher.{FoldHasher}
use Rattle.std.specs.declared.hash.BuildHasherDefault.{BuildHasherDefault}
use Rattle.ssim_flights.specs.declared.flight.DatedLeg.{DatedLeg}
use Rattle.ssim_flights.specs.declared.flight.Flight.{Flight as Flown}
use Rattle.season_changes.specs.declared.naming.Name.{Name}

abbrev pub same_name : Name → Name → Bool
same_name a b =
    pointwise nat_eq a.airline b.airline
    && ((a.number == b.number) && (option_eq nat_eq a.suffix b.suffix && (a.day == b.day)))

-- the name of a flight that begins with this leg
abbrev pub name_on : Flown → DatedLeg → Name
name_on flight leg =
    record { airline = flight.airline; number = flight.number; suffix = flight.suffix; day = leg.day }

-- a flight of these legs has the name; one without a leg has none
abbrev pub is_named_by : List DatedLeg → Flown → Name → Bool
is_named_by [] flight name = false
is_named_by (leg ∷ legs) flight name = same_name (name_on flight leg) name

abbrev pub is_named : Flown → Name → Bool
is_named flight name = is_named_by flight.legs flight name

-- the number of the first of these flights, counted from n, that has the name
abbrev pub number_from : ℕ → List Flown → Name → Option ℕ
number_from n [] name = None
number_from n (flight ∷ flights) name = (if is_named flight name then Some n else number_from (n + 1) flights name)

abbrev pub Numbers : Type 0
Numbers = HashMap Name ℕ (BuildHasherDefault FoldHasher)

-- the numbers of these flights, counted from n, by their names
pub record AreNumbersOf (numbers : Numbers) (n : ℕ) (flights : List Flown) : Type 0 where
  pub at : (name : Name) → get same_name numbers name ≡ number_from n flights name

-- the name has this number from now on
pub record PutsNumber (old new : Numbers) (name : Name) (n : ℕ) : Type 0 where
  pub at : (other : Name) → get same_name new other ≡ (if same_name name other then Some n else get same_name old other)

-- the name of the flight has
pub record PutsFlight (old new : Numbers) (flight : Flown) (n : ℕ) : Type 0 where
  pub at : (other : Name) → get same_name new other ≡ (if is_named flight other then Some n else get same_name old other)
