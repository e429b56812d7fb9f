-- Courses by their places, so that one is found without going over the others.
use Rattle.std.specs.Prelude.{◌≡◌, ◌==◌, ◌&&◌, ℕ, suc, Bool, List, [], ◌∷◌, Option, Some, None, option_map, slice_get, if◌then◌else◌}
use Rattle.std.specs.HashMap.{HashMap, get}
use Rattle.std.specs.declared.hash.FoldHasher.{FoldHasher}
use Rattle.std.specs.declared.hash.BuildHasherDefault.{BuildHasherDefault}
use Rattle.airline_base.specs.declared.place.Place.{Place}
use Rattle.carry_protections.specs.declared.by_place.Spot.{Spot}
use Rattle.carry_protections.specs.declared.course.Course.{Course}

abbrev pub spot_of : Place → Spot
spot_of p = record { flight = p.flight; from = p.from; to = p.to }

abbrev pub same_spot : Spot → Spot → Bool
same_spot a b = (a.flight == b.flight) && ((a.from == b.from) && (a.to == b.to))

-- the number of the first course of a place, counted from 0
abbrev pub number_of : List Course → Spot → Option ℕ
number_of [] spot = None
number_of (c ∷ courses) spot = (if same_spot (spot_of c.from) spot then Some 0 else option_map suc (number_of courses spot))

-- the course of a number
abbrev pub numbered : List Course → Option ℕ → Option Course
numbered courses None = None
numbered courses (Some n) = slice_get courses n

-- ---- the index

abbrev pub Numbers : Type 0
Numbers = HashMap Spot ℕ (BuildHasherDefault FoldHasher)

-- each place has the number of its first course, and none where it has no course
pub record AreNumbers (numbers : Numbers) (courses : List Course) : Type 0 where
  pub at : (spot : Spot) → get same_spot numbers spot ≡ number_of courses spot

-- the place has this number now, and each other what it had
pub record PutsNumber (old new : Numbers) (spot : Spot) (number : ℕ) : Type 0 where
  pub at : (s : Spot) → get same_spot new s ≡ (if same_spot spot s then Some number else get same_spot old s)

-- each place has what it had
pub record SameNumbers (old new : Numbers) : Type 0 where
  pub at : (spot : Spot) → get same_spot new spot ≡ get same_spot old spot
