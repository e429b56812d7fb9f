-- Rows of a table of texts: whose they are, in small letters or capitals, and what is written of one.
use Rattle.std.specs.Prelude.{◌≡◌, ℕ, Bool, List, [], ◌∷◌, ◌⊎◌, ◌++◌, ◌==◌, IsTrue, codes}
use Rattle.std.specs.List.{after_first, before_first}
use Rattle.std.specs.Str.{str_eq_ignore_ascii_case, trim_end}

-- what stands between the first two bars
abbrev pub row_code : List ℕ → List ℕ
row_code row = before_first (λ b. b == 124) (after_first (λ b. b == 124) row)

-- the lines behind the first one, without the last one's end
abbrev pub row_says : List ℕ → List ℕ
row_says row = trim_end (after_first (λ b. b == 10) row)

-- the row is one of this code
abbrev pub is_of : List ℕ → List ℕ → Bool
is_of code row = str_eq_ignore_ascii_case (row_code row) code

-- the row is one of this code, or the empty text
pub record IsRowOrNone (code row : List ℕ) : Type 0 where
  pub either : (row ≡ []) ⊎ IsTrue (is_of code row)

-- or one of a note
pub record IsNoteOrNone (code row : List ℕ) : Type 0 where
  pub either : IsRowOrNone code row ⊎ IsRowOrNone (codes "note") row

-- the first of two that is no empty text
abbrev pub first_of : List ℕ → List ℕ → List ℕ
first_of [] other = other
first_of (b ∷ bs) other = b ∷ bs

-- its code and what it says, with a line end
abbrev pub row_text : List ℕ → List ℕ
row_text row = row_code row ++ (codes ": " ++ (row_says row ++ codes "\n"))

-- the text begins with another
pub record Begins (front text : List ℕ) : Type 0 where
  pub more : List ℕ
  pub whole : text ≡ front ++ more

-- the text begins with what is written of a row of this code
pub record TellsOf (code text : List ℕ) : Type 0 where
  pub row : List ℕ
  pub of : IsTrue (is_of code row)
  pub begins : Begins (row_text row) text
