-- How the values of a row are spelled.
use Rattle.std.specs.Prelude.{◌≡◌, ℕ, ◌/◌, ◌%◌, List, [], ◌∷◌, ◌++◌, decimal, codes, Option}
use Rattle.airline_base.specs.Days.{IsDate, two_digits}
use Rattle.airline_base.specs.Fields.{suffix_text}
use Rattle.seat_tables.specs.declared.cell.Cell.{Cell}
use Rattle.seat_tables.specs.declared.cell.Cell.TheVariants.{Number, Date, Stop, Letter, Name, Word, Flight, Nothing}

-- YYYY-MM-DD of a day number
pub record IsDateText (n : ℕ) (text : List ℕ) : Type 0 where
  pub year : ℕ
  pub month : ℕ
  pub day : ℕ
  pub date : IsDate year month day n
  pub written : text ≡ two_digits (year / 100) ++ two_digits (year % 100) ++ codes "-" ++ two_digits month ++ codes "-" ++ two_digits day

-- the airline, the number without leading zeros, and the suffix
abbrev pub flight_text : List ℕ → ℕ → Option ℕ → List ℕ
flight_text airline number suffix = airline ++ decimal number ++ suffix_text suffix

-- the text of a value
abbrev pub IsCellText : Cell → List ℕ → Type 0
IsCellText (Number n) text = text ≡ decimal n
IsCellText (Date n) text = IsDateText n text
IsCellText (Stop station) text = text ≡ station
IsCellText (Letter class) text = text ≡ class ∷ []
IsCellText (Name locator) text = text ≡ locator
IsCellText (Word code) text = text ≡ code
IsCellText (Flight airline number suffix) text = text ≡ flight_text airline number suffix
IsCellText Nothing text = text ≡ []
