-- What `season` writes: a season file of a data set and its limits, from the set's first day on.
use Rattle.std.specs.Prelude.{◌≡◌, ◌≤◌, ℕ, ◌+◌, ◌-◌, ◌/◌, ◌%◌, ◌==◌, ◌||◌, nat_lt, if◌then◌else◌, List, [], ◌∷◌, ◌++◌, length, decimal, codes}
use Rattle.airline_base.specs.Days.{IsDate, two_digits}
use Rattle.ssim_records.specs.SetText.{IsDataSet}
use Rattle.ssim_records.specs.declared.set.DataSet.{DataSet}
use Rattle.seat_desk.specs.CheckDesk.{most_set_bytes, most_records}
use Rattle.seat_reports.specs.Span.{days_of, first_of}

-- 0 to 9, A to F
abbrev pub hex_digit : ℕ → ℕ
hex_digit n = if nat_lt n 10 then 48 + n else 65 + (n - 10)

-- a byte of a basic string (TOML 1.1): quotes and \ behind \, and control characters by their number
abbrev pub letter : ℕ → List ℕ
letter byte =
    if (byte == 34) || (byte == 92) then 92 ∷ byte ∷ []
    else if nat_lt byte 32 || (byte == 127) then codes "\\u00" ++ hex_digit (byte / 16) ∷ hex_digit (byte % 16) ∷ []
    else byte ∷ []

abbrev pub escaped : List ℕ → List ℕ
escaped [] = []
escaped (byte ∷ bytes) = letter byte ++ escaped bytes

abbrev pub quoted : List ℕ → List ℕ
quoted name = codes "\"" ++ (escaped name ++ codes "\"")

-- YYYY-MM-DD
abbrev pub date_text : ℕ → ℕ → ℕ → List ℕ
date_text year month day = two_digits (year / 100) ++ two_digits (year % 100) ++ codes "-" ++ two_digits month ++ codes "-" ++ two_digits day

-- the lines of the names, of the first day, and of the count of days
abbrev pub names_text : List ℕ → List ℕ → List ℕ
names_text set limits = codes "set = " ++ quoted set ++ codes "\nlimits = " ++ quoted limits

abbrev pub first_text : ℕ → ℕ → ℕ → List ℕ
first_text year month day = codes "\nfirst = " ++ date_text year month day

abbrev pub days_text : ℕ → List ℕ
days_text days = codes "\ndays = " ++ decimal days ++ codes "\n"

-- the text names the set and the limits, and has the set's first day and its days
pub record IsSeasonFile (set limits : List ℕ) (data_set : DataSet) (text : List ℕ) : Type 0 where
  pub year : ℕ
  pub month : ℕ
  pub day : ℕ
  pub first : IsDate year month day (first_of data_set)
  pub written : text ≡ names_text set limits ++ first_text year month day ++ days_text (days_of data_set)

-- the bytes are not too large, and the text begins a season of the data set that they are
pub record Begins (set limits bytes text : List ℕ) : Type 0 where
  pub within : length bytes ≤ most_set_bytes
  pub of : DataSet
  pub is_set : IsDataSet most_records bytes of
  pub is_file : IsSeasonFile set limits of text
