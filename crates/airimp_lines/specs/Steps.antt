-- Reading a script line by line, with the first fault that is met.
use Rattle.std.specs.Prelude.{◌≡◌, ◌⊎◌, ℕ, IsTrue, not, ◌-◌, ◌≤◌, ◌++◌, if◌then◌else◌, List, [], ◌∷◌, Option, Some, None, Result, Ok, Err}
use Rattle.airline_base.specs.Reach.{reach, IsFirst}
use Rattle.std.specs.Result.{IsOk}
use Rattle.airline_base.specs.Lines.{line_at}
use Rattle.airimp_lines.specs.Messages.{heading_at, is_passed_over}
use Rattle.airimp_lines.specs.Reading.{undated_at}
use Rattle.airimp_lines.specs.declared.fault.LineFault.{LineFault}
use Rattle.airimp_lines.specs.declared.fault.ScriptKind.{ScriptKind}
use Rattle.airimp_lines.specs.declared.fault.ScriptKind.TheVariants as kinds
use Rattle.airimp_lines.specs.declared.segment.Undated.{Undated}
use Rattle.airimp_lines.specs.declared.requests.Request.{Request}
use Rattle.airimp_lines.specs.Script.{Line, AreRequests, segment_lines}

-- the locator of the message that goes on, where one does
abbrev pub Message : Type 0
Message = Option (List ℕ)

-- behind the first line of a message
abbrev pub after_heading : Option (List ℕ) → Result Message ScriptKind
after_heading None = Err kinds.Locator
after_heading (Some locator) = Ok (Some locator)

-- behind a segment line
abbrev pub after_segment : List ℕ → Result Undated LineFault → Result Message ScriptKind
after_segment locator (Err fault) = Err (kinds.Line fault)
after_segment locator (Ok segment) = Ok (Some locator)

-- the message behind a line: an empty line ends it
abbrev pub step : Message → List ℕ → Result Message ScriptKind
step message [] = Ok None
step None (c ∷ text) = after_heading (heading_at (c ∷ text))
step (Some locator) (c ∷ text) =
    if is_passed_over (c ∷ text) then Ok (Some locator) else after_segment locator (undated_at (c ∷ text))

abbrev pub with_rest : List ℕ → Result Message ScriptKind → Result (Message × List ℕ) ScriptKind
with_rest rest (Err kind) = Err kind
with_rest rest (Ok message) = Ok (message, rest)

-- a line and its end
unfoldable pub next : Message → List ℕ → Result (Message × List ℕ) ScriptKind
next message bytes = with_rest (line_at bytes).1 (step message (line_at bytes).0)

-- a script may end behind any line
abbrev pub at_end : Message → Option ScriptKind
at_end message = None

-- the lines before this one have no fault, and this is the first one of the line
abbrev pub IsFirstFault : List ℕ → ℕ → ScriptKind → Type 0
IsFirstFault bytes line kind = IsFirst next at_end None bytes line kind

-- a segment line of a message, without a fault
abbrev pub HasRequest : Message → List ℕ → Type 0
HasRequest None text = ⊥
HasRequest (Some locator) [] = ⊥
HasRequest (Some locator) (c ∷ text) = IsTrue (not (is_passed_over (c ∷ text))) × IsOk (undated_at (c ∷ text))

-- no line has a fault up to this one, which has a request
abbrev pub WantsRoom : List ℕ → ℕ → Type 0
WantsRoom bytes line =
    (message : Message) × (rest : List ℕ) × (1 ≤ line) × (reach next None bytes (line - 1) ≡ Ok (message, rest))
    × HasRequest message (line_at rest).0

-- ---- one line

-- the line's own requests: one for a segment line in a message, none for any other line
abbrev pub AreOwn : ℕ → Message → Line → List Request → Type 0
AreOwn today None line added = added ≡ []
AreOwn today (Some locator) (n, []) added = added ≡ []
AreOwn today (Some locator) (n, c ∷ text) added = AreRequests today locator (segment_lines ((n, c ∷ text) ∷ [])) added

-- the line's request stands behind those before it
pub record Adds (today : ℕ) (message : Message) (line : Line) (old new : List Request) : Type 0 where
  pub added : List Request
  pub all : new ≡ old ++ added
  pub asked : AreOwn today message line added

-- a line that is refused: this is its fault, or there was no room for its request
abbrev pub IsStop : Message → List ℕ → ScriptKind → Type 0
IsStop message text kind = (step message text ≡ Err kind) ⊎ ((kind ≡ kinds.Memory) × HasRequest message text)
