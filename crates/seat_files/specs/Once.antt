-- Which of some files is named again: a pipe or an empty file is none, as whose requests can't be booked twice.
use Rattle.std.specs.Prelude.{ℕ, suc, Bool, false, ◌&&◌, ◌==◌, if◌then◌else◌, List, [], ◌∷◌, Option, Some, None, option_map}
use Rattle.std.specs.Option.{option_or}
use Rattle.seat_files.specs.declared.once.FileId.{FileId}

-- the same device, and the same number there
abbrev pub is_one : Option FileId → Option FileId → Bool
is_one (Some file) (Some other) = (file.device == other.device) && (file.number == other.number)
is_one _ _ = false

-- the first place of the file among others
abbrev pub place_among : Option FileId → List (Option FileId) → Option ℕ
place_among file [] = None
place_among file (other ∷ others) = if is_one file other then Some 0 else option_map suc (place_among file others)

-- the second place of the first file that is named again
abbrev pub named_again : List (Option FileId) → Option ℕ
named_again [] = None
named_again (file ∷ files) = option_map suc (option_or (place_among file files) (named_again files))
