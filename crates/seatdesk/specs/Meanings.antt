-- What the first word of a line means.
use Rattle.std.specs.Prelude.{◌≡◌, ℕ, List, [], ◌⊎◌, ⊤, IsTrue, codes}
use Rattle.std.specs.String.{string_bytes}
use Rattle.seatdesk.specs.declared.meaning.Meaning.{Meaning}
use Rattle.seatdesk.specs.declared.meaning.Meaning.TheVariants.{Found, Unknown}
use Rattle.seatdesk.specs.declared.told.Told.{Told}
use Rattle.seatdesk.specs.declared.told.Told.TheVariants.{Text, Left}
use Rattle.seatdesk.specs.Rows.{Begins, TellsOf, is_of, row_text}
use Rattle.seatdesk.specs.Words.{first_word, IsPlainOf, IsUnplaced}

-- the row is that of a word to a host, or of a reply's code without its seats
pub record IsPlainRow (word : List ℕ) (row : List ℕ) : Type 0 where
  pub plain : List ℕ
  pub is_plain : IsPlainOf word plain
  pub of : IsTrue (is_of plain row)

-- the row is that of the word, or of a note, or of a word to a host or a reply
pub record IsRowFor (word : List ℕ) (row : List ℕ) : Type 0 where
  pub either : IsTrue (is_of word row) ⊎ (IsTrue (is_of (codes "note") row) ⊎ IsPlainRow word row)

-- so it is, or the empty text
pub record IsRowForOrNone (word : List ℕ) (row : List ℕ) : Type 0 where
  pub either : (row ≡ []) ⊎ IsRowFor word row

-- the text begins with the row of a word to a host, or of a reply's code without its seats
pub record TellsPlainly (word text : List ℕ) : Type 0 where
  pub plain : List ℕ
  pub is_plain : IsPlainOf word plain
  pub tells : TellsOf plain text

-- the text begins with the row of the word, or with that of a note, or with that of a word to a host or a reply
pub record TellsMeaning (word text : List ℕ) : Type 0 where
  pub either : TellsOf word text ⊎ (TellsOf (codes "note") text ⊎ TellsPlainly word text)

-- so does what is told of a line
abbrev pub IsToldOf : List ℕ → Told → Type 0
IsToldOf code (Text text) = TellsMeaning code (string_bytes text)
IsToldOf code (Left words) = ⊤

-- so does what is found of a code
abbrev pub IsMeaning : List ℕ → Meaning → Type 0
IsMeaning code (Found text) = TellsMeaning code (string_bytes text)
IsMeaning code (Unknown word) = ⊤

-- what is told begins with the row
abbrev pub IsTold : List ℕ → Told → Type 0
IsTold row (Text text) = Begins (row_text row) (string_bytes text)
IsTold row (Left words) = ⊤

-- what is found of the first word of a line, or of the one behind the place of a journal
pub record IsMeaningOf (line : List (List ℕ)) (meaning : Meaning) : Type 0 where
  pub rest : List (List ℕ)
  pub is_unplaced : IsUnplaced line rest
  pub is : IsMeaning (first_word rest) meaning
