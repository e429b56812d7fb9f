-- The fields that segment lines alone have.
use Rattle.std.specs.Prelude.{ℕ, Bool, true, ◌&&◌, ◌==◌, nat_le, if◌then◌else◌, List, [], ◌∷◌, take, drop, Option, Some, None, pos}
use Rattle.std.specs.Char.{is_ascii_uppercase}
use Rattle.std.specs.List.{prefix_len, list_all}
use Rattle.jiff_core.specs.Calendar.{days_in_month}
use Rattle.airline_base.specs.Bytes.{is_printable}
use Rattle.airline_base.specs.Fields.{Field, two_are, two_value, month_of}

-- the run of letters: a class, or a suffix and a class
abbrev pub letters_in : List ℕ → List ℕ → Field (Option ℕ × ℕ)
letters_in (class ∷ []) rest = Some ((None, class), rest)
letters_in (suffix ∷ class ∷ []) rest = Some ((Some suffix, class), rest)
letters_in _ rest = None

unfoldable pub letters_at : List ℕ → Field (Option ℕ × ℕ)
letters_at bytes =
    letters_in (take (prefix_len is_ascii_uppercase bytes) bytes) (drop (prefix_len is_ascii_uppercase bytes) bytes)

-- a day of the month in some year: the leap year 2104 has each
unfoldable pub in_month : ℕ → ℕ → Bool
in_month day month = nat_le 1 day && nat_le day (days_in_month (pos 2104) month)

abbrev pub day_in : ℕ → List ℕ → Option ℕ → Field (ℕ × ℕ)
day_in day rest None = None
day_in day rest (Some month) = if in_month day month then Some ((day, month), rest) else None

-- DDMMM, a day that some year has
unfoldable pub day_at : List ℕ → Field (ℕ × ℕ)
day_at (t ∷ u ∷ a ∷ b ∷ c ∷ rest) =
    if two_are t u then day_in (two_value t u) rest (month_of a b c) else None
day_at _ = None

-- nothing, or a stroke and printable bytes
unfoldable pub is_tail : List ℕ → Bool
is_tail [] = true
is_tail (c ∷ rest) = (c == 47) && list_all is_printable rest
