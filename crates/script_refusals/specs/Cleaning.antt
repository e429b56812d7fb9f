-- A script without its wrong lines: what stands in the place of each, and why it is refused. It has as many lines, or none.
use Rattle.std.specs.Prelude.{ℕ, ◌+◌, ◌++◌, if◌then◌else◌, List, [], ◌∷◌, Option, Some, None, Result, Ok, Err}
use Rattle.std.specs.List.{concat, list_all, onto_first}
use Rattle.airline_base.specs.Lines.{is_line_feed, line_at}
use Rattle.airimp_lines.specs.Steps.{Message, step}
use Rattle.airimp_lines.specs.declared.fault.ScriptFault.{ScriptFault}
use Rattle.airimp_lines.specs.declared.fault.ScriptKind.{ScriptKind}
use Rattle.script_refusals.specs.declared.cleaning.Passage.{Passage}
use Rattle.script_refusals.specs.declared.cleaning.Passage.TheVariants.{Right, Refused}

-- ---- lines

-- the lines of a text, each with its end
abbrev pub whole_lines : List ℕ → List (List ℕ)
whole_lines [] = []
whole_lines (c ∷ rest) = if is_line_feed c then (c ∷ []) ∷ whole_lines rest else onto_first c (whole_lines rest)

-- such a line without its end
abbrev pub text_of : List ℕ → List ℕ
text_of line = (line_at line).0

-- ---- one line

-- behind a wrong line of a message, by what it would be as the first one of another: where it could be that, an empty line is wanting
-- ahead of it, and nobody can tell whose the lines below it are
abbrev pub passage_within : List ℕ → Result Message ScriptKind → Passage
passage_within locator (Ok first) = Refused
passage_within locator (Err kind) = Right (Some locator)

-- a wrong first line refuses its message, and a wrong line in a message itself alone, where it could not begin another one
abbrev pub passage_refused : Message → List ℕ → Passage
passage_refused None text = Refused
passage_refused (Some locator) text = passage_within locator (step None text)

-- behind a line of a script
abbrev pub passage_after : Message → List ℕ → Result Message ScriptKind → Passage
passage_after message text (Ok next) = Right next
passage_after message text (Err kind) = passage_refused message text

-- what is refused with a line ends with the first empty line
abbrev pub passage_behind : Passage → List ℕ → Passage
passage_behind (Right message) text = passage_after message text (step message text)
passage_behind Refused [] = Right None
passage_behind Refused (c ∷ text) = Refused

-- a name line, which asks for nothing: 1 and LF
abbrev pub name_line : List ℕ
name_line = 49 ∷ 10 ∷ []

-- LF
abbrev pub empty_line : List ℕ
empty_line = 10 ∷ []

-- what stands in the place of a wrong line, ahead of this
abbrev pub line_refused : Passage → List ℕ
line_refused (Right message) = name_line
line_refused Refused = empty_line

-- and of any line
abbrev pub kept_after : Message → List ℕ → Result Message ScriptKind → List ℕ
kept_after message line (Ok next) = line
kept_after message line (Err kind) = line_refused (passage_refused message (text_of line))

abbrev pub kept : Passage → List ℕ → List ℕ
kept (Right message) line = kept_after message line (step message (text_of line))
kept Refused line = empty_line

-- the line is refused for this
abbrev pub refused_for : Result Message ScriptKind → Option ScriptKind
refused_for (Ok next) = None
refused_for (Err kind) = Some kind

-- among the lines that are refused with another no line is refused by itself
abbrev pub fault_in : Passage → List ℕ → Option ScriptKind
fault_in (Right message) text = refused_for (step message text)
fault_in Refused text = None

abbrev pub own_refusal : ℕ → Option ScriptKind → List ScriptFault
own_refusal number None = []
own_refusal number (Some kind) = record { line = number; kind = kind } ∷ []

-- ---- all lines

abbrev pub cleaned_lines : Passage → List (List ℕ) → List (List ℕ)
cleaned_lines passage [] = []
cleaned_lines passage (line ∷ lines) = kept passage line ∷ cleaned_lines (passage_behind passage (text_of line)) lines

-- the lines count from this number
abbrev pub refusals_from : Passage → ℕ → List (List ℕ) → List ScriptFault
refusals_from passage number [] = []
refusals_from passage number (line ∷ lines) =
    own_refusal number (fault_in passage (text_of line))
    ++ refusals_from (passage_behind passage (text_of line)) (number + 1) lines

-- ---- a script

-- no message is open at its beginning
abbrev pub at_start : Passage
at_start = Right None

abbrev pub refusals_of : List ℕ → List ScriptFault
refusals_of bytes = refusals_from at_start 1 (whole_lines bytes)

-- each line that is kept, and what stands in the place of the others
abbrev pub lines_left : List ℕ → List ℕ
lines_left bytes = concat (cleaned_lines at_start (whole_lines bytes))

-- where lines are refused and nothing is left but empty lines, nothing is left, so that the script is like no other one
abbrev pub left_of : List ScriptFault → List ℕ → List ℕ
left_of [] text = text
left_of (fault ∷ refusals) text = if list_all is_line_feed text then [] else text

abbrev pub cleaned_text : List ℕ → List ℕ
cleaned_text bytes = left_of (refusals_of bytes) (lines_left bytes)
