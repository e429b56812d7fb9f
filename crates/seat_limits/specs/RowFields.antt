-- The fields that limit rows and change rows alone have.
use Rattle.std.specs.Prelude.{ℕ, if◌then◌else◌, List, [], ◌∷◌, take, drop, Option, Some, None, option_map}
use Rattle.std.specs.Char.{is_ascii_uppercase}
use Rattle.airline_base.specs.Days.{date_in}
use Rattle.airline_base.specs.Fields.{Field}

-- a letter, if there is one
abbrev pub suffix_at : List ℕ → Option ℕ × List ℕ
suffix_at [] = (None, [])
suffix_at (c ∷ rest) = if is_ascii_uppercase c then (Some c, rest) else (None, c ∷ rest)

abbrev pub with_rest : List ℕ → ℕ → ℕ × List ℕ
with_rest rest n = (n, rest)

-- DDMMMYY
unfoldable pub date_at : List ℕ → Field ℕ
date_at bytes = option_map (with_rest (drop 7 bytes)) (date_in (take 7 bytes))
