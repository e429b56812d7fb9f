-- What runs have booked, and the texts that begin with it.
use Rattle.std.specs.Prelude.{ℕ, Bool, true, ◌&&◌, nat_lt, if◌then◌else◌, List, [], ◌∷◌, Option, None, Some, map, take}
use Rattle.std.specs.List.{flat_map, list_any}
use Rattle.std.specs.List.Sorted.{IsNonDecreasingBy}
use Rattle.seat_seal.specs.declared.imprint.Imprint.{Imprint}
use Rattle.seat_seal.specs.declared.run.Run.{Run}
use Rattle.seat_seal.specs.declared.scripts.Script.{Script}
use Rattle.seat_seal.specs.Comparing.{same_imprint}
use Rattle.seat_seal.specs.Imprints.{imprint_of}

-- the text begins with the very bytes that were booked, of which there is one at least
abbrev pub begins_with : List ℕ → Imprint → Bool
begins_with text booked = nat_lt 0 booked.bytes && same_imprint booked (imprint_of (take booked.bytes text))

-- it begins with one of them
abbrev pub is_booked : List Imprint → List ℕ → Bool
is_booked booked text = list_any (begins_with text) booked

-- the run began ahead of so many lines, or wherever it began
abbrev pub is_ahead : Option ℕ → Run → Bool
is_ahead None run = true
is_ahead (Some lines) run = nat_lt run.behind lines

abbrev pub imprint_in : Script → Imprint
imprint_in s = s.imprint

abbrev pub changes_in : Option Imprint → List Imprint
changes_in None = []
changes_in (Some imprint) = imprint ∷ []

-- a run's scripts and its changes, where it counts
abbrev pub scripts_of : Option ℕ → Run → List Imprint
scripts_of lines run = if is_ahead lines run then map imprint_in run.scripts else []

abbrev pub changes_of : Option ℕ → Run → List Imprint
changes_of lines run = if is_ahead lines run then changes_in run.changes else []

-- those of the fewest bytes first
abbrev pub AreInOrder : List Imprint → Type 0
AreInOrder booked = IsNonDecreasingBy (λ one. one.bytes) booked

-- the scripts that the runs booked, and the changes, by those ahead of so many lines or by all
abbrev pub scripts_booked : Option ℕ → List Run → List Imprint
scripts_booked lines runs = flat_map (scripts_of lines) runs

abbrev pub changes_booked : Option ℕ → List Run → List Imprint
changes_booked lines runs = flat_map (changes_of lines) runs
