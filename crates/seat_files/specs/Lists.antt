-- A list, where it is put, and the journal that it is put ahead of.
use Rattle.std.specs.Prelude.{◌≡◌, ◌⊎◌, ℕ, Bool, false, List, Option, Some, IfSome, IsTrue, if◌then◌else◌, string_bytes}
use Rattle.std.specs.List.{count_by}
use Rattle.std.specs.Vec.{vec_items}
use Rattle.airline_base.specs.Lines.{is_line_feed}
use Rattle.seat_files.specs.declared.list_file.ListFile.{ListFile}
use Rattle.seat_files.specs.declared.journal_file.JournalFile.{JournalFile}
use Rattle.seat_files.specs.declared.journal_file.Target.{Target}
use Rattle.seat_files.specs.declared.journal_file.Target.TheVariants.{Stream, Regular}

-- the name of its file
abbrev pub list_name : ListFile → List ℕ
list_name s = string_bytes s.paths.name

-- what the file gets
abbrev pub list_held : ListFile → List ℕ
list_held s = vec_items s.text

-- the file has it
abbrev pub is_list_put : ListFile → Bool
is_list_put s = s.is_put

-- how many rows were put
abbrev pub rows_put : ListFile → ℕ
rows_put s = if s.is_put then count_by is_line_feed (vec_items s.text) else 0

-- the list that is put ahead of a journal, if there is one
abbrev pub journal_list : JournalFile → Option ListFile
journal_list s = s.list

-- where there is one, its file has it
abbrev pub IsListPut : JournalFile → Type 0
IsListPut s = IfSome s.list (λ list. IsTrue (is_list_put list))

-- the new file has taken the name
abbrev pub is_target_put : Target → Bool
is_target_put (Stream file) = false
is_target_put (Regular standing) = standing.is_put

abbrev pub is_journal_put : JournalFile → Bool
is_journal_put s = is_target_put s.target

-- where the journal took the name, its list was put
abbrev pub IsPutBehindList : JournalFile → JournalFile → Type 0
IsPutBehindList old new = IsTrue (is_journal_put new) → IsTrue (is_journal_put old) ⊎ IsListPut new
