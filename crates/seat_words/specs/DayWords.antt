-- Words that name a day, a number of days, or one of seconds.
use Rattle.std.specs.Prelude.{◌≡◌, ℕ, ◌+◌, ◌/◌, ◌%◌, ◌≤◌, ◌==◌, ◌&&◌, if◌then◌else◌, true, List, [], ◌∷◌, ◌++◌, length, Option, None, codes}
use Rattle.std.specs.Char.{is_ascii_digit}
use Rattle.std.specs.List.{list_all}
use Rattle.std.specs.Str.Parse.{digits_value}
use Rattle.airline_base.specs.Fields.{two_are, two_value}
use Rattle.airline_base.specs.Days.{IsDate, civil_in, two_digits}

-- YYYY-MM-DD (ISO 8601, the extended format of a calendar date)
abbrev pub date_text : ℕ → ℕ → ℕ → List ℕ
date_text year month day = two_digits (year / 100) ++ two_digits (year % 100) ++ codes "-"
    ++ two_digits month ++ codes "-" ++ two_digits day

-- the word is the date of day number n, in the years 2000 to 2099
pub record IsDateWord (word : List ℕ) (n : ℕ) : Type 0 where
  pub year : ℕ
  pub month : ℕ
  pub day : ℕ
  pub date : IsDate year month day n
  pub first : 2000 ≤ year
  pub last : year ≤ 2099
  pub written : word ≡ date_text year month day

-- the word is n in one to three digits, from 1 to 366
pub record IsDaysWord (word : List ℕ) (n : ℕ) : Type 0 where
  pub digits : list_all is_ascii_digit word ≡ true
  pub short : length word ≤ 3
  pub value : digits_value 10 word ≡ n
  pub least : 1 ≤ n
  pub most : n ≤ 366

-- the word is n in one to four digits, from 1 to 3600: the seconds of an hour
pub record IsEveryWord (word : List ℕ) (n : ℕ) : Type 0 where
  pub digits : list_all is_ascii_digit word ≡ true
  pub short : length word ≤ 4
  pub value : digits_value 10 word ≡ n
  pub least : 1 ≤ n
  pub most : n ≤ 3600

-- ---- its reading

unfoldable pub date_word_in : List ℕ → Option ℕ
date_word_in (c ∷ e ∷ y ∷ z ∷ g ∷ m ∷ n ∷ h ∷ t ∷ u ∷ []) =
    if (c == 50) && (e == 48) && (g == 45) && (h == 45) && (two_are y z && (two_are m n && two_are t u))
    then civil_in (2000 + two_value y z) (two_value m n) (two_value t u) else None
date_word_in _ = None
