-- How a change reads, and a class whose limit does not come to what is wanted.
use Rattle.std.specs.Prelude.{◌≡◌, ℕ, ◌+◌, ◌/◌, ◌%◌, nat_lt, List, [], ◌∷◌, ◌++◌, decimal, codes, if◌then◌else◌}
use Rattle.airline_base.specs.Days.{IsDateText}
use Rattle.airline_base.specs.Fields.{suffix_text}
use Rattle.limit_changes.specs.declared.legs.NamedLeg.{NamedLeg}
use Rattle.limit_changes.specs.declared.rows.Row.{Row}
use Rattle.limit_changes.specs.declared.shorts.Short.{Short}

-- airline, number and suffix, and a blank
abbrev pub front_text : NamedLeg → List ℕ
front_text leg = leg.name.airline ++ decimal leg.name.number ++ suffix_text leg.name.suffix ++ codes " "

-- a blank, and the two stations
abbrev pub pair_text : NamedLeg → List ℕ
pair_text leg = codes " " ++ leg.run.board ++ leg.run.off

-- the flight, the day as DDMMMYY, and the city pair
pub record IsLegName (leg : NamedLeg) (text : List ℕ) : Type 0 where
  pub day : List ℕ
  pub is_day : IsDateText leg.run.day day
  pub written : text ≡ front_text leg ++ day ++ pair_text leg

-- a number below 1000 in three digits
abbrev pub three_digits : ℕ → List ℕ
three_digits n = (48 + n / 100 % 10) ∷ (48 + n / 10 % 10) ∷ (48 + n % 10) ∷ []

-- a blank, the class with its limit and its wait, and the end of the line
abbrev pub entry_text : Row → List ℕ
entry_text row = codes " " ++ (row.class ∷ []) ++ three_digits row.limit ++ codes "/" ++ three_digits row.wait ++ 10 ∷ []

-- a change, as `--changes` reads it
pub record IsRowLine (row : Row) (line : List ℕ) : Type 0 where
  pub name : List ℕ
  pub is_name : IsLegName row.leg name
  pub written : line ≡ codes "AU " ++ name ++ entry_text row

-- the seats that are held, where they are more than is wanted; else the limit, which another class keeps it from leaving
abbrev pub reason_text : Short → List ℕ
reason_text short =
    (if nat_lt short.wanted short.held then codes " HELD " ++ decimal short.held else codes " NESTED " ++ decimal short.limit)

-- behind the leg: the class, what is wanted and why it doesn't come to that
abbrev pub short_text : Short → List ℕ
short_text short =
    codes " " ++ (short.class ∷ []) ++ codes " WANTED " ++ decimal short.wanted ++ reason_text short ++ 10 ∷ []

pub record IsShortLine (short : Short) (line : List ℕ) : Type 0 where
  pub name : List ℕ
  pub is_name : IsLegName short.leg name
  pub written : line ≡ codes "SHORT " ++ name ++ short_text short

-- behind a leg that no row names: the class, what is wanted, and that no row can ask for it
abbrev pub unnamed_text : Short → List ℕ
unnamed_text short = codes " " ++ (short.class ∷ []) ++ codes " WANTED " ++ decimal short.wanted ++ codes " UNNAMED" ++ 10 ∷ []

pub record IsUnnamedLine (short : Short) (line : List ℕ) : Type 0 where
  pub name : List ℕ
  pub is_name : IsLegName short.leg name
  pub written : line ≡ codes "SHORT " ++ name ++ unnamed_text short

-- the name of a leg is written behind what was there
pub record IsNamePut (leg : NamedLeg) (old new : List ℕ) : Type 0 where
  pub part : List ℕ
  pub is_name : IsLegName leg part
  pub written : new ≡ old ++ part

-- and its day
pub record IsDayPut (n : ℕ) (old new : List ℕ) : Type 0 where
  pub part : List ℕ
  pub is_day : IsDateText n part
  pub written : new ≡ old ++ part
