-- Scripts and rows of changes that have grown since a journal was made of them: what it has of each, and what is left to ask.
use Rattle.std.specs.Prelude.{◌≡◌, ◌≢◌, ◌⊎◌, ℕ, suc, ◌+◌, ◌-◌, ◌<◌, ◌≤◌, List, [], ◌∷◌, ◌++◌, length, map, take, drop, slice_get}
use Rattle.airimp_lines.specs.declared.requests.Request.{Request}
use Rattle.ssim_flights.specs.declared.flight.Flight.{Flight as Flown}
use Rattle.seat_journal.specs.declared.entry.Control.{Control}
use Rattle.seat_journal.specs.Controls.{set_by}
use Rattle.seat_journal.specs.declared.entry.Entry.{Entry}
use Rattle.seat_journal.specs.declared.entry.Work.{Work}
use Rattle.seat_journal.specs.declared.entry.Work.TheVariants.{Seats}
use Rattle.seat_desk.specs.declared.fault.DeskFault.{DeskFault}
use Rattle.seat_desk.specs.declared.fault.DeskFault.TheVariants.{NoBehind, Unasked}
use Rattle.seat_rules.specs.Journal.{calls_of}
use Rattle.seat_rules.specs.Prefixes.{Begins}
use Rattle.seat_scripts.specs.Against.{DifferAt, IsNoBeginning, IsParted, IsShort, done_by}
use Rattle.seat_replies.specs.Requests.{commands_of}
use Rattle.seat_replies.specs.RunDesk.{requests_of}
use Rattle.seat_replies.specs.VeryRequest.{Agree}

-- what a session did is what its script begins with
pub record HasBegun (flights : List Flown) (requests : List Request) (done : List Work) : Type 0 where
  pub each : (place : ℕ) → place < length done → Agree flights (slice_get requests place) (slice_get done place)

-- so it is of each session from 1 on, as far as this one; sessions beyond the scripts did nothing
pub record HaveBegunBelow (flights : List Flown) (scripts : List (List Request)) (lines : List Entry) (limit : ℕ) :
    Type 0 where
  pub each : (session : ℕ) → 1 ≤ session → session < limit
      → HasBegun flights (requests_of scripts session) (done_by session lines)

-- the first session of which a line is not the very request at its place, and the first such line of it, from 1
pub record IsFirstStranger (flights : List Flown) (scripts : List (List Request)) (lines : List Entry)
    (session place : ℕ) : Type 0 where
  pub from_one : 1 ≤ session
  pub before : HaveBegunBelow flights scripts lines session
  pub differ : DifferAt flights place (requests_of scripts session) (done_by session lines)
  pub line : place ≤ length (done_by session lines)

-- what is left of the scripts from that of this session on: the requests behind as many as it did
abbrev pub left_from : ℕ → List (List Request) → List Entry → List (List Request)
left_from session [] lines = []
left_from session (script ∷ scripts) lines =
    drop (length (done_by session lines)) script ∷ left_from (suc session) scripts lines

-- the lines behind a past are what the scripts begin with, and this is left of these
pub record AreLeft (flights : List Flown) (scripts : List (List Request)) (begun : List Entry)
    (left : List (List Request)) : Type 0 where
  pub have_begun : HaveBegunBelow flights scripts begun 9
  pub left_is : left ≡ left_from 1 scripts begun

-- one of them is not what its script has there: its session, and its call, which goes on from those of the past
pub record IsStranger (flights : List Flown) (scripts : List (List Request)) (past begun : List Entry)
    (session call : ℕ) : Type 0 where
  pub place : ℕ
  pub first : IsFirstStranger flights scripts begun session place
  pub call_is : call ≡ calls_of past session + place

-- the fault names that session and that call
abbrev pub IsUnbegun : List Flown → List (List Request) → List Entry → List Entry → DeskFault → Type 0
IsUnbegun flights scripts past begun (Unasked session call) = IsStranger flights scripts past begun session call
IsUnbegun flights scripts past begun _ = ⊥

-- ---- the changes of the manager, session 0

-- what the manager did is what the changes begin with
abbrev pub AreMade : List Control → List Entry → Type 0
AreMade changes begun = Begins (done_by 0 begun) (map set_by changes)

-- the first line of the manager, from 1, that is not the change at its place
pub record IsFirstOther (changes : List Control) (begun : List Entry) (place : ℕ) : Type 0 where
  pub from_one : 1 ≤ place
  pub line : place ≤ length (done_by 0 begun)
  pub before : take (place - 1) (done_by 0 begun) ≡ take (place - 1) (map set_by changes)
  pub there : slice_get (done_by 0 begun) (place - 1) ≢ slice_get (map set_by changes) (place - 1)

-- a line of the manager is not the change at its place: its call, which goes on from those of the past
pub record IsUnmade (changes : List Control) (past begun : List Entry) (session call : ℕ) : Type 0 where
  pub place : ℕ
  pub manager : session ≡ 0
  pub first : IsFirstOther changes begun place
  pub call_is : call ≡ calls_of past 0 + place

-- the fault names that call of session 0
abbrev pub IsUnmadeBy : List Control → List Entry → List Entry → DeskFault → Type 0
IsUnmadeBy changes past begun (Unasked session call) = IsUnmade changes past begun session call
IsUnmadeBy changes past begun _ = ⊥

-- what is left of the changes: those behind as many as the manager did
abbrev pub changes_left : List Control → List Entry → List Control
changes_left changes begun = drop (length (done_by 0 begun)) changes

-- ---- behind an older journal

-- the journal is a past and the lines that were begun behind it, the past being the older lines and so many more; the changes and the
-- scripts begin with what was begun, and this is left of them
pub record IsRestOf (flights : List Flown) (scripts : List (List Request)) (changes : List Control) (older : List Entry)
    (more : ℕ) (journal : List Entry) (left : List (List Request)) (rest : List Control) : Type 0 where
  pub past : List Entry
  pub begun : List Entry
  pub parted : IsParted older more past begun journal
  pub are_made : AreMade changes begun
  pub are_left : AreLeft flights scripts begun left
  pub rest_is : rest ≡ changes_left changes begun

-- it is so parted, but a line of the manager is not the change at its place, or one of a session is not the request at its place
pub record IsStrangerBehind (flights : List Flown) (scripts : List (List Request)) (changes : List Control)
    (older : List Entry) (more : ℕ) (journal : List Entry) (session call : ℕ) : Type 0 where
  pub past : List Entry
  pub begun : List Entry
  pub parted : IsParted older more past begun journal
  pub other : IsUnmade changes past begun session call
      ⊎ (AreMade changes begun × IsStranger flights scripts past begun session call)

-- the journal does not begin with the older lines, or has a line that is not asked, and the fault names where; or it has fewer lines
abbrev pub IsNoRest : List Flown → List (List Request) → List Control → List Entry → ℕ → List Entry → DeskFault → Type 0
IsNoRest flights scripts changes older more journal (Unasked session call) =
    IsNoBeginning older journal session call
    ⊎ IsStrangerBehind flights scripts changes older more journal session call
IsNoRest flights scripts changes older more journal NoBehind = IsShort older more journal
IsNoRest flights scripts changes older more journal _ = ⊥

-- ---- the law

-- each session's lines that were added are what is left of its script asks, in order; a session beyond the scripts has none
pub record AreAskedOf (flights : List Flown) (left : List (List Request)) (added : List Entry) : Type 0 where
  pub each : (session : ℕ) → 1 ≤ session
      → done_by session added ≡ map Seats (commands_of flights (requests_of left session))

-- scripts whose rest was booked whole leave nothing: to go on with the very same scripts once more asks for nothing
abbrev pub NothingIsLeft : Type 0
NothingIsLeft =
    (flights : List Flown) (scripts left : List (List Request)) (lines added : List Entry) →
    AreLeft flights scripts lines left → AreAskedOf flights left added
    → AreLeft flights scripts (lines ++ added) (map (λ script. []) scripts)
