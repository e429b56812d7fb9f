-- What a sheet has of its table by now.
use Rattle.std.specs.Prelude.{◌≡◌, ℕ, false, List, [], ◌∷◌, ◌++◌}
use Rattle.csv.specs.Records.{fields_of}
use Rattle.csv.specs.Writing.{fields_written, has_written, row_text, writer_pending, writer_setup, writer_under}
use Rattle.json.specs.Token.{Token, key}
use Rattle.json.specs.Written.{Written}
use Rattle.seat_tables.specs.Rows.{AreMembers, AreRowLines, IsJsonLine, IsPlainLine, IsSpelled, IsString, IsToken, head_text, writer_of}
use Rattle.seat_tables.specs.declared.cell.Cell.{Cell}
use Rattle.seat_tables.specs.declared.sheet.Form.{Form}
use Rattle.seat_tables.specs.declared.sheet.Form.TheVariants.{Text, Csv, Json}
use Rattle.seat_tables.specs.declared.sheet.Sheet.{Sheet}

-- the text so far
abbrev pub csv_text : Sheet → List ℕ
csv_text sheet = (writer_under sheet.writer).items ++ writer_pending sheet.writer

abbrev pub text_by : Form → Sheet → List ℕ
text_by Text sheet = csv_text sheet
text_by Csv sheet = csv_text sheet
text_by Json sheet = sheet.json.items

-- no row is begun
pub record IsReady (sheet : Sheet) : Type 0 where
  pub setup : writer_setup sheet.writer ≡ writer_of sheet.form
  pub begun : fields_written sheet.writer ≡ 0
  pub clean : has_written sheet.writer ≡ false

-- a sheet with the head of its table and no row
pub record IsBegun (form : Form) (names : List (List ℕ)) (sheet : Sheet) : Type 0 where
  pub form_is : sheet.form ≡ form
  pub ready : IsReady sheet
  pub text : text_by form sheet ≡ head_text form names

-- the lines of these rows are written behind what was there
pub record ArePut (names : List (List ℕ)) (rows : List (List Cell)) (old new : Sheet) : Type 0 where
  pub form_is : new.form ≡ old.form
  pub ready : IsReady new
  pub part : List ℕ
  pub are_lines : AreRowLines old.form names rows part
  pub written : text_by old.form new ≡ text_by old.form old ++ part

-- ---- one line

-- the fields are written behind what was there
pub record IsRecordPut (old new : Sheet) : Type 0 where
  pub form_is : new.form ≡ old.form
  pub ready : IsReady new
  pub written : csv_text new ≡ csv_text old ++ row_text (writer_of old.form) (fields_of old.fields)

-- the names are
pub record AreNamesPut (names : List (List ℕ)) (old new : Sheet) : Type 0 where
  pub form_is : new.form ≡ old.form
  pub ready : IsReady new
  pub written : csv_text new ≡ csv_text old ++ row_text (writer_of old.form) names

-- the line of the row is
pub record IsPlainRowPut (row : List Cell) (old new : Sheet) : Type 0 where
  pub form_is : new.form ≡ old.form
  pub ready : IsReady new
  pub line : List ℕ
  pub is_line : IsPlainLine (writer_of old.form) row line
  pub written : csv_text new ≡ csv_text old ++ line

pub record IsJsonRowPut (names : List (List ℕ)) (row : List Cell) (old new : Sheet) : Type 0 where
  pub form_is : new.form ≡ old.form
  pub ready : IsReady new
  pub line : List ℕ
  pub is_line : IsJsonLine names row line
  pub written : new.json.items ≡ old.json.items ++ line

-- such an object stands behind what was there
pub record IsJsonTextPut (names : List (List ℕ)) (row : List Cell) (old new : List ℕ) : Type 0 where
  pub line : List ℕ
  pub is_line : IsJsonLine names row line
  pub written : new ≡ old ++ line

-- ---- tokens

-- one token more
pub record IsTokenPut (IsRight : Token → Type 0) (old new : Written) : Type 0 where
  pub before : new.before ≡ old.before
  pub token : Token
  pub is_right : IsRight token
  pub written : new.tokens ≡ old.tokens ++ token ∷ []

abbrev pub IsStringPut : List ℕ → Written → Written → Type 0
IsStringPut text = IsTokenPut (IsString text)

abbrev pub IsSpelledPut : Cell → Written → Written → Type 0
IsSpelledPut cell = IsTokenPut (IsSpelled cell)

abbrev pub IsValuePut : Cell → Written → Written → Type 0
IsValuePut cell = IsTokenPut (IsToken cell)

-- a name, and the value under it
pub record IsMemberPut (name : List ℕ) (cell : Cell) (old new : Written) : Type 0 where
  pub before : new.before ≡ old.before
  pub token : Token
  pub is_value : IsToken cell token
  pub written : new.tokens ≡ old.tokens ++ key name ∷ token ∷ []

pub record AreMembersPut (names : List (List ℕ)) (row : List Cell) (old new : Written) : Type 0 where
  pub before : new.before ≡ old.before
  pub members : List Token
  pub are_members : AreMembers names row members
  pub written : new.tokens ≡ old.tokens ++ members
