-- Days, by their numbers from 1 January 1970, and the date form DDMMMYY.
use Rattle.std.specs.Prelude.{◌≡◌, ℕ, ◌+◌, ◌/◌, ◌%◌, ◌<◌, ◌≤◌, ◌==◌, Bool, ◌&&◌, nat_le, if◌then◌else◌, List, [], ◌∷◌, ◌++◌, Option, Some, None, pos, unsigned_abs, codes}
use Rattle.jiff_core.specs.Calendar.{IsCivilDate, days_from_civil, days_in_month}
use Rattle.airline_base.specs.Fields.{two_are, two_value, month_of}

-- from 1 January 1999 to 31 December 2199
abbrev pub IsDay : ℕ → Type 0
IsDay n = (10592 ≤ n) × (n ≤ 84005)

-- from 1 January 2000 to 31 December 2099
abbrev pub IsCenturyDay : ℕ → Type 0
IsCenturyDay n = (10957 ≤ n) × (n ≤ 47481)

-- the calendar has this day, and n is its number
abbrev pub IsDate : ℕ → ℕ → ℕ → ℕ → Type 0
IsDate year month day n = IsCivilDate (pos year) month day × (days_from_civil (pos year) month day ≡ pos n)

-- ---- the form

-- JAN to DEC
abbrev pub month_name : ℕ → List ℕ
month_name m =
    if m == 1 then codes "JAN" else if m == 2 then codes "FEB" else if m == 3 then codes "MAR"
    else if m == 4 then codes "APR" else if m == 5 then codes "MAY" else if m == 6 then codes "JUN"
    else if m == 7 then codes "JUL" else if m == 8 then codes "AUG" else if m == 9 then codes "SEP"
    else if m == 10 then codes "OCT" else if m == 11 then codes "NOV" else codes "DEC"

-- a number below 100 in two digits
abbrev pub two_digits : ℕ → List ℕ
two_digits n = (48 + n / 10) ∷ (48 + n % 10) ∷ []

-- DDMMM
abbrev pub day_month : ℕ → ℕ → List ℕ
day_month day month = two_digits day ++ month_name month

-- DDMMMYY of a day number, with the year's last two digits
pub record IsDateText (n : ℕ) (text : List ℕ) : Type 0 where
  pub year : ℕ
  pub month : ℕ
  pub day : ℕ
  pub date : IsDate year month day n
  pub written : text ≡ day_month day month ++ two_digits (year % 100)

-- DDMMMYY of the years 2000 to 2099
pub record IsDayField (text : List ℕ) (n : ℕ) : Type 0 where
  pub year : ℕ
  pub month : ℕ
  pub day : ℕ
  pub date : IsDate (2000 + year) month day n
  pub century : year < 100
  pub written : text ≡ day_month day month ++ two_digits year

-- ---- its reading

abbrev pub is_civil : ℕ → ℕ → ℕ → Bool
is_civil y m d = nat_le 1 m && nat_le m 12 && (nat_le 1 d && nat_le d (days_in_month (pos y) m))

-- the number of a day that the calendar has
unfoldable pub civil_in : ℕ → ℕ → ℕ → Option ℕ
civil_in y m d = if is_civil y m d then Some (unsigned_abs (days_from_civil (pos y) m d)) else None

abbrev pub dated : ℕ → ℕ → Option ℕ → Option ℕ
dated y d None = None
dated y d (Some m) = civil_in (2000 + y) m d

-- the day that DDMMMYY names
unfoldable pub date_in : List ℕ → Option ℕ
date_in (t ∷ u ∷ a ∷ b ∷ c ∷ y ∷ z ∷ []) =
    if two_are t u && two_are y z then dated (two_value y z) (two_value t u) (month_of a b c) else None
date_in _ = None

-- ---- laws

-- what is written of a day of the years 2000 to 2099 is read as that day
abbrev pub WrittenIsRead : Type 0
WrittenIsRead = (n : ℕ) (text : List ℕ) → IsCenturyDay n → IsDateText n text → date_in text ≡ Some n

-- what is read as a day is what is written of it
abbrev pub ReadIsWritten : Type 0
ReadIsWritten = (n : ℕ) (text : List ℕ) → date_in text ≡ Some n → IsCenturyDay n × IsDateText n text

-- a day is written in one way
abbrev pub OneDateText : Type 0
OneDateText = (n : ℕ) (a b : List ℕ) → IsDateText n a → IsDateText n b → a ≡ b
