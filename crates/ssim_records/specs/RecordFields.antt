-- The fields of a record: a value, where the bytes are right.
use Rattle.std.specs.Prelude.{ℕ, ◌+◌, ◌-◌, ◌*◌, Bool, true, false, ◌&&◌, ◌||◌, ◌==◌, nat_lt, nat_le, if◌then◌else◌, List, [], ◌∷◌, length, drop, Option, Some, None, ℤ, pos, negsuc, ◌-ℤ◌}
use Rattle.std.specs.Char.{is_ascii_digit, is_ascii_uppercase}
use Rattle.std.specs.List.{prefix_len, list_all}
use Rattle.std.specs.Str.Parse.{digits_value}
use Rattle.airline_base.specs.Names.{is_airline, is_station}
use Rattle.airline_base.specs.Bytes.{open_end, same_text}
use Rattle.airline_base.specs.Days.{date_in}
use Rattle.airline_base.specs.Fields.{two_are, two_value}

-- ---- numbers

-- the number of a run of digits, one or more
abbrev pub digits_in : List ℕ → Option ℕ
digits_in run = if nat_lt 0 (length run) && list_all is_ascii_digit run then Some (digits_value 10 run) else None

-- blanks, and then digits up to the last byte
unfoldable pub padded_in : List ℕ → Option ℕ
padded_in text = digits_in (drop (prefix_len (λ c. c == 32) text) text)

abbrev pub at_least_one : Option ℕ → Option ℕ
at_least_one None = None
at_least_one (Some n) = if nat_le 1 n then Some n else None

unfoldable pub positive_in : List ℕ → Option ℕ
positive_in text = at_least_one (padded_in text)

-- six digits
unfoldable pub six_in : List ℕ → Option ℕ
six_in text = if (length text == 6) && list_all is_ascii_digit text then Some (digits_value 10 text) else None

-- ---- names

-- `U` (85) or `L` (76)
unfoldable pub mode_in : List ℕ → Option Bool
mode_in (c ∷ []) = if c == 85 then Some false else if c == 76 then Some true else None
mode_in _ = None

-- an airline and a blank (32)
unfoldable pub designator_in : List ℕ → Option (List ℕ)
designator_in (a ∷ b ∷ c ∷ []) = if is_airline (a ∷ b ∷ []) && (c == 32) then Some (a ∷ b ∷ []) else None
designator_in _ = None

unfoldable pub station_in : List ℕ → Option (List ℕ)
station_in text = if is_station text then Some text else None

-- a blank or a letter
unfoldable pub suffix_in : List ℕ → Option (Option ℕ)
suffix_in (c ∷ []) = if c == 32 then Some None else if is_ascii_uppercase c then Some (Some c) else None
suffix_in _ = None

unfoldable pub byte_in : List ℕ → Option ℕ
byte_in (c ∷ []) = Some c
byte_in _ = None

-- ---- dates

abbrev pub not_before : ℕ → Option ℕ → Option (Option ℕ)
not_before from None = None
not_before from (Some to) = if nat_le from to then Some (Some to) else None

-- a day not before the first, or no end
unfoldable pub until_in : ℕ → List ℕ → Option (Option ℕ)
until_in from text = if same_text text open_end then Some None else not_before from (date_in text)

-- ---- days, weeks and times

-- the digit of this weekday, or a blank
unfoldable pub day_in : ℕ → ℕ → Option Bool
day_in k c = if c == 48 + k then Some true else if c == 32 then Some false else None

abbrev pub with_day : Option Bool → Option (List Bool) → Option (List Bool)
with_day None days = None
with_day (Some day) None = None
with_day (Some day) (Some days) = Some (day ∷ days)

abbrev pub days_from : ℕ → List ℕ → Option (List Bool)
days_from k [] = Some []
days_from k (c ∷ rest) = with_day (day_in k c) (days_from (k + 1) rest)

unfoldable pub days_in : List ℕ → Option (List Bool)
days_in text = if length text == 7 then days_from 1 text else None

-- a blank, `1` (49) or `2` (50)
unfoldable pub rate_in : List ℕ → Option Bool
rate_in (c ∷ []) = if (c == 32) || (c == 49) then Some false else if c == 50 then Some true else None
rate_in _ = None

abbrev pub time_is : ℕ → ℕ → Option ℕ
time_is hours minutes =
    if nat_lt minutes 60 && nat_le (60 * hours + minutes) 1440 then Some (60 * hours + minutes) else None

-- HHMM, 2400 too
unfoldable pub time_in : List ℕ → Option ℕ
time_in (a ∷ b ∷ c ∷ d ∷ []) = if two_are a b && two_are c d then time_is (two_value a b) (two_value c d) else None
time_in _ = None

-- `+` (43) or `-` (45)
unfoldable pub signed_in : ℕ → ℕ → Option ℤ
signed_in sign total = if sign == 43 then Some (pos total) else if sign == 45 then Some (pos 0 -ℤ pos total) else None

abbrev pub offset_is : ℕ → ℕ → ℕ → Option ℤ
offset_is sign hours minutes =
    if nat_lt hours 24 && nat_lt minutes 60 then signed_in sign (60 * hours + minutes) else None

unfoldable pub offset_in : List ℕ → Option ℤ
offset_in (sign ∷ a ∷ b ∷ c ∷ d ∷ []) =
    if two_are a b && two_are c d then offset_is sign (two_value a b) (two_value c d) else None
offset_in _ = None

-- a blank, `0` (48) to `7` (55), `A` (65) or `J` (74)
unfoldable pub shift_in : List ℕ → Option ℤ
shift_in (c ∷ []) =
    if c == 32 then Some (pos 0) else if nat_le 48 c && nat_le c 55 then Some (pos (c - 48))
    else if (c == 65) || (c == 74) then Some (negsuc 0) else None
shift_in _ = None

-- `E` (69) ends the data set, and `C` (67) says that it goes on elsewhere
unfoldable pub continued_in : List ℕ → Option Bool
continued_in (c ∷ []) = if c == 69 then Some false else if c == 67 then Some true else None
continued_in _ = None
