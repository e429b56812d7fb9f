-- SSIM chapter 7: an itinerary is the legs of one flight number, operational suffix, itinerary variation and overflow.
use Rattle.std.specs.Prelude.{◌==◌, nat_eq, Bool, ◌&&◌, if◌then◌else◌, List, [], ◌∷◌, ◌++◌, map, filter}
use Rattle.std.specs.Option.{option_eq}
use Rattle.std.specs.List.{list_any}
use Rattle.ssim_records.specs.declared.carrier.Leg.{Leg}
use Rattle.ssim_flights.specs.declared.itinerary.Name.{Name}

abbrev pub name_of : Leg → Name
name_of leg = record { number = leg.number; suffix = leg.suffix; variation = leg.variation; overflow = leg.overflow }

abbrev pub same_name : Name → Name → Bool
same_name a b =
    (a.number == b.number)
    && (option_eq nat_eq a.suffix b.suffix && ((a.variation == b.variation) && (a.overflow == b.overflow)))

-- a name that is not there yet goes last
abbrev pub with_name : List Name → Name → List Name
with_name names name = if list_any (same_name name) names then names else names ++ name ∷ []

-- the names of the legs, in the order of their first records
abbrev pub names_after : List Name → List Leg → List Name
names_after names [] = names
names_after names (leg ∷ legs) = names_after (with_name names (name_of leg)) legs

-- the legs of a name, in the order of their records
abbrev pub legs_of : List Leg → Name → List Leg
legs_of legs name = filter (λ leg. same_name name (name_of leg)) legs

-- the itineraries, in the order of their first records
unfoldable pub itineraries : List Leg → List (List Leg)
itineraries legs = map (legs_of legs) (names_after [] legs)
