-- What the right lines of a script ask for, and what that says of the script without the wrong ones.
use Rattle.std.specs.Prelude.{◌≡◌, ◌↔◌, ◌<◌, ◌^◌, true, ℕ, ◌+◌, ◌++◌, length, List, [], ◌∷◌, Result, Ok, Err}
use Rattle.std.specs.Str.Lines.{lines}
use Rattle.airimp_lines.specs.Script.{IsScript, Line}
use Rattle.airimp_lines.specs.Steps.{AreOwn, IsFirstFault, Message, step}
use Rattle.airimp_lines.specs.declared.fault.ScriptFault.{ScriptFault}
use Rattle.airimp_lines.specs.declared.fault.ScriptKind.{ScriptKind}
use Rattle.airimp_lines.specs.declared.requests.Request.{Request}
use Rattle.script_refusals.specs.Cleaning.{at_start, cleaned_text, passage_behind, refusals_of}
use Rattle.script_refusals.specs.Listing.{is_list}
use Rattle.script_refusals.specs.Sorting.{rows_of}
use Rattle.script_refusals.specs.declared.cleaning.Passage.{Passage}
use Rattle.script_refusals.specs.declared.cleaning.Passage.TheVariants.{Right, Refused}

-- a wrong line asks for nothing
abbrev pub AreAskedAfter : ℕ → Message → Line → Result Message ScriptKind → List Request → Type 0
AreAskedAfter today message line (Ok next) own = AreOwn today message line own
AreAskedAfter today message line (Err kind) own = own ≡ []

-- and so does a line that is refused with another
abbrev pub AreAskedBy : ℕ → Passage → Line → List Request → Type 0
AreAskedBy today (Right message) line own = AreAskedAfter today message line (step message line.1) own
AreAskedBy today Refused line own = own ≡ []

-- the requests of the right lines, which count from this number
abbrev pub AreAsked : ℕ → Passage → ℕ → List (List ℕ) → List Request → Type 0
AreAsked today passage number [] all = all ≡ []
AreAsked today passage number (text ∷ texts) all =
    (own others : List Request) × AreAskedBy today passage (number, text) own
    × AreAsked today (passage_behind passage text) (number + 1) texts others
    × (all ≡ own ++ others)

-- the requests of the right lines of a script
abbrev pub AreRight : ℕ → List ℕ → List Request → Type 0
AreRight today bytes requests = AreAsked today at_start 1 (lines bytes) requests

-- ---- laws

-- without its wrong lines a script has no fault
abbrev pub CleanedIsRight : Type 0
CleanedIsRight = (bytes : List ℕ) (line : ℕ) (kind : ScriptKind) → IsFirstFault (cleaned_text bytes) line kind → ⊥

-- it asks for what the right lines ask for, each under its own number
abbrev pub RightLinesAreKept : Type 0
RightLinesAreKept = (today : ℕ) (bytes : List ℕ) (requests : List Request)
    → IsScript today (cleaned_text bytes) requests ↔ AreRight today bytes requests

-- a script without a fault stays as it is
abbrev pub RightScriptsStay : Type 0
RightScriptsStay = (today : ℕ) (bytes : List ℕ) (requests : List Request) → IsScript today bytes requests
    → (cleaned_text bytes ≡ bytes) × (refusals_of bytes ≡ [])

-- its rows are a list, so what a run wrote may be replaced by the next one
abbrev pub RowsAreAList : Type 0
RowsAreAList = (session : ℕ) (bytes : List ℕ) → session < 10 → length bytes < 2 ^ 32 → is_list (rows_of session bytes) ≡ true

-- what a script is refused for where its wrong lines are not passed over is the first refusal
pub record BeginsWith (fault : ScriptFault) (refusals : List ScriptFault) : Type 0 where
  pub others : List ScriptFault
  pub all : refusals ≡ fault ∷ others

abbrev pub FirstRefusalIsTheFault : Type 0
FirstRefusalIsTheFault = (bytes : List ℕ) (fault : ScriptFault) → IsFirstFault bytes fault.line fault.kind
    → BeginsWith fault (refusals_of bytes)
