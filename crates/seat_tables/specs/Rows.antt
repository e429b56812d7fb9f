-- How a row and a table are written: as plain text, as CSV (RFC 4180) and as JSON (RFC 8259, an object a line), each line ended by LF.
use Rattle.std.specs.Prelude.{◌≡◌, ◌⊎◌, ℕ, List, [], ◌∷◌, ◌++◌, map, decimal, ◌+◌, Option, Some, None, IsUtf8}
use Rattle.csv.specs.Reading.{AreRecords, default_config}
use Rattle.csv.specs.Writing.{default_writer, read_back, row_text, with_delimiter}
use Rattle.csv.specs.declared.parser.State.TheVariants as st
use Rattle.csv.specs.declared.writer.WriterBuilder.{WriterBuilder}
use Rattle.json.specs.Lex.{tokens}
use Rattle.json.specs.Print.{print}
use Rattle.json.specs.Token.{Token, begin_object, end_object, key, string, number, null}
use Rattle.seat_tables.specs.Cells.{IsCellText}
use Rattle.seat_tables.specs.declared.cell.Cell.{Cell}
use Rattle.seat_tables.specs.declared.cell.Cell.TheVariants.{Number}
use Rattle.seat_tables.specs.declared.sheet.Form.{Form}
use Rattle.seat_tables.specs.declared.sheet.Form.TheVariants.{Text, Csv, Json}

-- ---- plain text and CSV: the texts of the values, with a blank or a comma between them, and quoted where one needs it

abbrev pub AreTexts : List Cell → List (List ℕ) → Type 0
AreTexts [] texts = texts ≡ []
AreTexts (c ∷ cells) texts =
    (text : List ℕ) × (rest : List (List ℕ)) × IsCellText c text × (texts ≡ text ∷ rest) × AreTexts cells rest

abbrev pub writer_of : Form → WriterBuilder
writer_of Text = with_delimiter default_writer 32
writer_of Csv = default_writer
writer_of Json = default_writer

pub record IsPlainLine (writer : WriterBuilder) (row : List Cell) (line : List ℕ) : Type 0 where
  pub texts : List (List ℕ)
  pub are_texts : AreTexts row texts
  pub written : line ≡ row_text writer texts

-- ---- JSON: an object of the columns in their order, a count as a number and any other value as a string

-- a string; a text that is no UTF-8 has none
abbrev pub IsString : List ℕ → Token → Type 0
IsString text t = (IsUtf8 text × (t ≡ string text)) ⊎ ((IsUtf8 text → ⊥) × (t ≡ null))

abbrev pub IsSpelled : Cell → Token → Type 0
IsSpelled c t = (text : List ℕ) × IsCellText c text × IsString text t

-- a count has a number
abbrev pub count_of : Cell → Option ℕ
count_of (Number n) = Some n
count_of _ = None

abbrev pub IsTokenBy : Option ℕ → Cell → Token → Type 0
IsTokenBy (Some n) c t = t ≡ number (decimal n)
IsTokenBy None c t = IsSpelled c t

abbrev pub IsToken : Cell → Token → Type 0
IsToken c t = IsTokenBy (count_of c) c t

-- the name of each column and the value under it
abbrev pub AreMembers : List (List ℕ) → List Cell → List Token → Type 0
AreMembers (name ∷ names) (c ∷ cells) ts =
    (t : Token) × (rest : List Token) × IsToken c t × (ts ≡ key name ∷ t ∷ rest) × AreMembers names cells rest
AreMembers [] (c ∷ cells) ts = ts ≡ []
AreMembers (name ∷ names) [] ts = ts ≡ []
AreMembers [] [] ts = ts ≡ []

-- the line is such an object, and read as JSON it has the very tokens that were written
pub record IsJsonLine (names : List (List ℕ)) (row : List Cell) (line : List ℕ) : Type 0 where
  pub members : List Token
  pub are_members : AreMembers names row members
  pub written : line ≡ print (begin_object ∷ members ++ end_object ∷ []) ++ 10 ∷ []
  pub reads_back : tokens (print (begin_object ∷ members ++ end_object ∷ [])) ≡ begin_object ∷ members ++ end_object ∷ []

-- ---- a table

abbrev pub IsRowLine : Form → List (List ℕ) → List Cell → List ℕ → Type 0
IsRowLine Text names row line = IsPlainLine (writer_of Text) row line
IsRowLine Csv names row line = IsPlainLine (writer_of Csv) row line
IsRowLine Json names row line = IsJsonLine names row line

-- a line for each row, in order
abbrev pub AreRowLines : Form → List (List ℕ) → List (List Cell) → List ℕ → Type 0
AreRowLines form names [] text = text ≡ []
AreRowLines form names (row ∷ rows) text =
    (line rest : List ℕ) × IsRowLine form names row line × (text ≡ line ++ rest) × AreRowLines form names rows rest

-- plain text and CSV have a line of the columns' names ahead of the rows
abbrev pub head_text : Form → List (List ℕ) → List ℕ
head_text Text names = row_text (writer_of Text) names
head_text Csv names = row_text (writer_of Csv) names
head_text Json names = []

pub record IsTable (form : Form) (names : List (List ℕ)) (rows : List (List Cell)) (text : List ℕ) : Type 0 where
  pub body : List ℕ
  pub are_lines : AreRowLines form names rows body
  pub written : text ≡ head_text form names ++ body

-- ---- rows of parts

-- the rows of a list whose items are counted from i
abbrev pub rows_from : {A : Type 0} → (ℕ → A → List (List Cell)) → ℕ → List A → List (List Cell)
rows_from rows i [] = []
rows_from rows i (x ∷ xs) = rows i x ++ rows_from rows (i + 1) xs

-- ---- what is written is read back

abbrev pub AreAllTexts : List (List Cell) → List (List (List ℕ)) → Type 0
AreAllTexts [] texts = texts ≡ []
AreAllTexts (row ∷ rows) texts =
    (first : List (List ℕ)) × (rest : List (List (List ℕ))) × AreTexts row first × (texts ≡ first ∷ rest)
    × AreAllTexts rows rest

-- the records of a CSV text are the columns' names and then the texts of each row's values; a record of no field is read as one empty field
pub record IsReadAs (names : List (List ℕ)) (rows : List (List Cell)) (text : List ℕ) : Type 0 where
  pub texts : List (List (List ℕ))
  pub are_texts : AreAllTexts rows texts
  pub are_records : AreRecords default_config st.StartRecord text (map read_back (names ∷ texts))

abbrev pub CsvReadsBack : Type 0
CsvReadsBack = (names : List (List ℕ)) (rows : List (List Cell)) (text : List ℕ) → IsTable Csv names rows text →
    IsReadAs names rows text
