-- Scripts that are read without their wrong lines, and the list of these lines.
use Rattle.std.specs.Prelude.{◌≡◌, ℕ, ◌+◌, List, [], ◌∷◌, Option, None, Some, IsSomeAnd, map}
use Rattle.std.specs.List.{concat}
use Rattle.script_refusals.specs.Cleaning.{cleaned_text}
use Rattle.script_refusals.specs.Listing.{stray_row}
use Rattle.script_refusals.specs.Sorting.{rows_of}
use Rattle.seat_files.specs.Lists.{journal_list, list_held, list_name}
use Rattle.seat_files.specs.Streams.{input_rest}
use Rattle.seat_files.specs.declared.journal_file.JournalFile.{JournalFile}
use Rattle.seat_files.specs.declared.list_file.ListFile.{ListFile}
use Rattle.seat_files.specs.declared.streams.Input.{Input}

-- what is read of the script of a session is what is left of a text, and these are the rows of that text
pub record IsSorted (session : ℕ) (script : Input) (rows : List ℕ) : Type 0 where
  pub text : List ℕ
  pub left : input_rest script ≡ Some (cleaned_text text)
  pub refused : rows ≡ rows_of session text

-- the rows of the texts of sessions that count from this number
abbrev pub rows_from : ℕ → List (List ℕ) → List (List ℕ)
rows_from session [] = []
rows_from session (text ∷ texts) = rows_of session text ∷ rows_from (session + 1) texts

-- what is read of a script in the place of this text
abbrev pub left_of : List ℕ → Option (List ℕ)
left_of text = Some (cleaned_text text)

-- what is read of each script is what is left of a text, and each session has the rows of its text
pub record AreSorted (scripts : List Input) (sessions : List (List ℕ)) : Type 0 where
  pub texts : List (List ℕ)
  pub left : map input_rest scripts ≡ map left_of texts
  pub refused : sessions ≡ rows_from 1 texts

-- what is read of each script is what is left of a text
pub record AreCleaned (scripts : List Input) : Type 0 where
  pub texts : List (List ℕ)
  pub left : map input_rest scripts ≡ map left_of texts

-- the list has the rows of the scripts, one session after the other, and no others
pub record AreListed (scripts : List Input) (list : List ℕ) : Type 0 where
  pub sessions : List (List ℕ)
  pub sorted : AreSorted scripts sessions
  pub whole : list ≡ concat sessions

-- each row of the list is one of those with which the rows of each session begin, one session after the other
pub record AreBegun (scripts : List Input) (list : List ℕ) : Type 0 where
  pub sessions : List (List ℕ)
  pub sorted : AreSorted scripts sessions
  pub begun : stray_row list sessions ≡ None

-- the list of this name is put with the journal, and is that of the scripts
pub record IsOfScripts (name : List ℕ) (scripts : List Input) (list : ListFile) : Type 0 where
  pub named : list_name list ≡ name
  pub listed : AreListed scripts (list_held list)

abbrev pub IsPutWith : JournalFile → List ℕ → List Input → Type 0
IsPutWith journal name scripts = IsSomeAnd (journal_list journal) (IsOfScripts name scripts)
