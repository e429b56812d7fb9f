-- The list of refused lines, and how a list that was written before stands to it.
use Rattle.std.specs.Prelude.{◌≡◌, ◌==◌, ◌&&◌, ◌||◌, nat_eq, ℕ, Bool, false, ◌+◌, ◌-◌, ◌++◌, if◌then◌else◌, List, [], ◌∷◌, Option, Some, None, length, take, codes, decimal}
use Rattle.std.specs.Cmp.Lexicographic.{pointwise}
use Rattle.std.specs.Char.{is_ascii_digit}
use Rattle.std.specs.List.{count_by, list_all}
use Rattle.std.specs.Str.Lines.{lines}
use Rattle.airline_base.specs.Lines.{is_line_feed}
use Rattle.airimp_lines.specs.FaultText.{kind_text}
use Rattle.airimp_lines.specs.declared.fault.ScriptFault.{ScriptFault}

-- a refused line, as a run without a list is refused for it: its code, the session and the line
abbrev pub row_text : ℕ → ScriptFault → List ℕ
row_text session fault =
    kind_text fault.kind ++ codes " " ++ decimal session ++ codes " " ++ decimal fault.line ++ 10 ∷ []

-- the refused lines of a session's script
abbrev pub rows_text : ℕ → List ScriptFault → List ℕ
rows_text session [] = []
rows_text session (fault ∷ refusals) = row_text session fault ++ rows_text session refusals

-- both begin with one byte
abbrev pub begin_alike : List ℕ → List ℕ → Bool
begin_alike [] rows = false
begin_alike (a ∷ listed) [] = false
begin_alike (a ∷ listed) (b ∷ rows) = a == b

-- the row in which the byte stands that follows the first one
abbrev pub row_on : List ℕ → List ℕ → List ℕ
row_on row [] = row
row_on row (a ∷ listed) = if is_line_feed a then listed else row

-- what stands of a list from its row on, behind the whole rows that it has in common with these
abbrev pub behind_row : List ℕ → List ℕ → List ℕ → List ℕ
behind_row row [] rows = row
behind_row row (a ∷ listed) [] = row
behind_row row (a ∷ listed) (b ∷ rows) =
    if a == b then behind_row (row_on row (a ∷ listed)) listed rows else row

abbrev pub rows_behind : List ℕ → List ℕ → List ℕ
rows_behind listed rows = behind_row listed listed rows

-- behind the rows of each session, one session after the other
abbrev pub rows_behind_all : List ℕ → List (List ℕ) → List ℕ
rows_behind_all listed [] = listed
rows_behind_all listed (rows ∷ sessions) = rows_behind_all (rows_behind listed rows) sessions

-- the list begins with rows with which these begin too
pub record IsBehind (listed rows rest : List ℕ) : Type 0 where
  pub front : List ℕ
  pub more : List ℕ
  pub in_list : listed ≡ front ++ rest
  pub in_rows : rows ≡ front ++ more

-- the number of the row behind which this much is left of a list; rows count from 1
abbrev pub row_number : List ℕ → List ℕ → ℕ
row_number listed rest = 1 + count_by is_line_feed (take (length listed - length rest) listed)

-- the first row in which a list is not these rows
abbrev pub other_row : List ℕ → List ℕ → Option ℕ
other_row listed rows =
    if pointwise nat_eq listed rows then None else Some (row_number listed (rows_behind listed rows))

abbrev pub stray_in : List ℕ → List ℕ → Option ℕ
stray_in listed [] = None
stray_in listed (c ∷ rest) = Some (row_number listed (c ∷ rest))

-- the first row of a list that is none of those with which each session's begin, one session after the other
abbrev pub stray_row : List ℕ → List (List ℕ) → Option ℕ
stray_row listed sessions = stray_in listed (rows_behind_all listed sessions)

-- digits, of which there is one at least
abbrev pub is_number : List ℕ → Bool
is_number [] = false
is_number (digit ∷ digits) = is_ascii_digit digit && list_all is_ascii_digit digits

-- a session and a line, as 1 17
abbrev pub is_place : List ℕ → Bool
is_place [] = false
is_place (session ∷ []) = false
is_place (session ∷ blank ∷ line) = is_ascii_digit session && (blank == 32 && is_number line)

-- the code of a segment line ahead of that, as A5 1 17
abbrev pub is_coded_place : List ℕ → Bool
is_coded_place [] = false
is_coded_place (letter ∷ []) = false
is_coded_place (letter ∷ digit ∷ []) = false
is_coded_place (letter ∷ digit ∷ blank ∷ place) = letter == 65 && (is_ascii_digit digit && (blank == 32 && is_place place))

-- Q1 1 17 or Q2 A5 1 17: so a row stands, and no right line of a script does
abbrev pub is_row : List ℕ → Bool
is_row [] = false
is_row (letter ∷ []) = false
is_row (letter ∷ digit ∷ []) = false
is_row (letter ∷ digit ∷ blank ∷ rest) =
    letter == 81 && (blank == 32 && ((digit == 49 && is_place rest) || (digit == 50 && is_coded_place rest)))

-- each line of the text is a row
abbrev pub is_list : List ℕ → Bool
is_list bytes = list_all is_row (lines bytes)
