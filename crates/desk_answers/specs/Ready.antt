-- The line that says where a desk stands.
use Rattle.std.specs.Prelude.{◌≡◌, ℕ, ◌/◌, ◌%◌, List, [], ◌∷◌, ◌++◌, codes, decimal, Option, Some, None}
use Rattle.airline_base.specs.Days.{two_digits, IsDate}

-- YYYY-MM-DD of a day number
pub record IsIsoDay (n : ℕ) (text : List ℕ) : Type 0 where
  pub year : ℕ
  pub month : ℕ
  pub day : ℕ
  pub date : IsDate year month day n
  pub written : text ≡ two_digits (year / 100) ++ two_digits (year % 100) ++ 45 ∷ two_digits month ++ 45 ∷ two_digits day

-- the word of a hello, and a blank
abbrev pub name_text : Option (List ℕ) → List ℕ
name_text None = []
name_text (Some name) = name ++ codes " "

-- READY, the word of the hello that it answers, the session, how many lines the journal has, how many of them are this session's,
-- the day, and the journal's epoch
pub record IsReadyLine (name : Option (List ℕ)) (session lines calls today epoch : ℕ) (text : List ℕ) : Type 0 where
  pub day : List ℕ
  pub is_day : IsIsoDay today day
  pub written : text ≡ codes "READY " ++ name_text name ++ decimal session ++ codes " " ++ decimal lines ++ codes " " ++ decimal calls
      ++ codes " " ++ day ++ codes " " ++ decimal epoch ++ codes "\n"
