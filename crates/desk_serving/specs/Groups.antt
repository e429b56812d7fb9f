-- The lines of a group, heard one by one, and what each desk is told of them.
use Rattle.std.specs.Prelude.{◌≡◌, ◌<◌, ◌≤◌, ◌-◌, ◌+◌, ◌==◌, ◌&&◌, ◌++◌, ℕ, zero, suc, Bool, true, false, List, [], ◌∷◌, codes, length, map, replicate, is_some, slice_get, Option, Some, None, All}
use Rattle.desk_answers.specs.FaultLines.{fault_line, memory_line}
use Rattle.desk_hall.specs.Departed.{closings, is_day_given}
use Rattle.desk_hall.specs.Halls.{Hallful, IsOpened, IsPassed, IsPiece, IsSameHall, IsSet, IsToldTo, IsUnheard, IsUnordered}
use Rattle.desk_hall.specs.Pieces.{again_asked, backlog_of}
use Rattle.desk_lines.specs.declared.desk.Desk.{Desk}
use Rattle.desk_pipes.specs.Waiting.{Posted}
use Rattle.desk_pipes.specs.declared.inbox.Said.{Said}
use Rattle.desk_serving.specs.Going.{is_apart, IsHeardBehind}
use Rattle.desk_serving.specs.Silence.{IsSilentAt}
use Rattle.desk_serving.specs.declared.closing.Closing.{Closing}
use Rattle.desk_serving.specs.declared.closing.Closing.TheVariants.{Wanting, Whole}
use Rattle.desk_serving.specs.declared.step.Step.{Step}
use Rattle.desk_serving.specs.declared.step.Step.TheVariants.{Full, NotBehind, Told}
use Rattle.desk_serving.specs.declared.taking.Taking.{Taking}
use Rattle.desk_serving.specs.declared.taking.Taking.TheVariants.{Forgotten, Heard, Nobodys}
use Rattle.seat_journal.specs.declared.entry.Control.{Control}
use Rattle.seat_journal.specs.declared.entry.Entry.{Entry}
use Rattle.seat_serving.specs.Answering.{behind}
use Rattle.seat_serving.specs.Served.{Served}
use Rattle.ssim_flights.specs.declared.flight.Flight.{Flight as Flown}

-- ---- answers

-- what was heard is booked: the journal has its lines
pub record IsBooked {D : Type 0} (old new : Hallful D) : Type 0 where
  pub journal_is : new.serving.journal ≡ behind old.serving.grid old.serving.journal old.asked
  pub none_asked : new.asked ≡ []
  pub same : IsSameHall old new

-- a notice for this session, and what it is told of the lines that were heard
pub record IsOwn {D : Type 0} (hall : Hallful D) (session : ℕ) (notice : Posted) : Type 0 where
  pub session_is : notice.session ≡ session
  pub told : IsToldTo hall session notice.text

-- these are the notices for this session and for those behind it
abbrev pub AreFrom : {D : Type 0} → Hallful D → ℕ → List Posted → Type 0
AreFrom hall session [] = Unit {0}
AreFrom hall session (notice ∷ notices) =
    IsOwn hall session notice × AreFrom hall (suc session) notices

-- so many of them, the manager's first, have what is told of the lines that were heard
pub record AreNotices {D : Type 0} (hall : Hallful D) (count : ℕ) (notices : List Posted) : Type 0 where
  pub each : AreFrom hall 0 notices
  pub count_is : length notices ≡ count

-- the manager and each session's desk has its own
abbrev pub AreTold : {D : Type 0} → Hallful D → List Posted → Type 0
AreTold hall notices = AreNotices hall (length hall.desks + 1) notices

-- it is told, and all else is the same
pub record IsTold {D : Type 0} (old new : Hallful D) : Type 0 where
  pub notices : List Posted
  pub told : AreTold old notices
  pub none_told : new.turns ≡ []
  pub serving_is : new.serving ≡ old.serving
  pub asked_is : new.asked ≡ old.asked
  pub desks_are : new.desks ≡ old.desks
  pub manager_is : new.manager ≡ old.manager
  pub today_is : new.today ≡ old.today
  pub flights_are : new.flights ≡ old.flights
  pub backlogs_are : new.backlogs ≡ old.backlogs

-- booked, and then told
pub record IsAnswered {D : Type 0} (old new : Hallful D) : Type 0 where
  pub mid : Hallful D
  pub booked : IsBooked old mid
  pub told : IsTold mid new

-- ---- who is behind

-- a text waits for this session that is its piece of so many lines at most
pub record IsGiven {D : Type 0} (old new : Hallful D) (session most : ℕ) (told : Posted) : Type 0 where
  pub session_is : told.session ≡ session
  pub piece : IsPiece old new session most told.text

-- whoever is behind is told all that it is still to be told, behind what was heard ahead of it
pub record IsTaughtAll {D : Type 0} (old new : Hallful D) (session : ℕ) : Type 0 where
  pub mid : Hallful D
  pub answered : IsAnswered old mid
  pub told : Posted
  pub given : IsGiven mid new session (length mid.serving.journal) told

-- who is not has nothing to catch up with
abbrev pub IsCaughtUpBy : {D : Type 0} → Bool → Hallful D → Hallful D → ℕ → Type 0
IsCaughtUpBy true old new session = IsTaughtAll old new session
IsCaughtUpBy false old new session = new ≡ old

abbrev pub IsCaughtUp : {D : Type 0} → Hallful D → Hallful D → ℕ → Type 0
IsCaughtUp old new session = IsCaughtUpBy (is_some (backlog_of old.backlogs session)) old new session

-- what a desk asks to be told again is told piece by piece from then on, and any other word to the host is answered
pub record IsWordAnswered {D : Type 0} (old new : Hallful D) : Type 0 where
  pub mid : Hallful D
  pub opened : IsOpened (again_asked old.turns) old mid
  pub answered : IsAnswered mid new

-- a session is not behind, or its outbox has no room, or it is told a piece, of 4,096 lines at most
abbrev pub IsStep : {D : Type 0} → Hallful D → Hallful D → ℕ → Step → Type 0
IsStep old new session NotBehind = (backlog_of old.backlogs session ≡ None) × (new ≡ old)
IsStep old new session (Full room) = (room.session ≡ session) × (room.is_there ≡ false) × (new ≡ old)
IsStep old new session (Told room told) = (room.session ≡ session) × (room.is_there ≡ true) × IsGiven old new session 4096 told

pub record IsStepped {D : Type 0} (old new : Hallful D) (session : ℕ) : Type 0 where
  pub step : Step
  pub is : IsStep old new session step

-- so are the first of them, so many
abbrev pub AreSteps : {D : Type 0} → ℕ → Hallful D → Hallful D → Type 0
AreSteps {D} zero old new = new ≡ old
AreSteps {D} (suc sessions) old new = (mid : Hallful D) × AreSteps sessions old mid × IsStepped mid new sessions

-- which sessions are behind, the manager first
abbrev pub who_is_behind : List (Option ℕ) → List Bool
who_is_behind backlogs = map (λ session. is_some (backlog_of backlogs session)) (0 ∷ 1 ∷ 2 ∷ 3 ∷ 4 ∷ 5 ∷ 6 ∷ 7 ∷ 8 ∷ [])

-- all that was heard is answered, and then each session is told a piece
pub record IsToldOn {D : Type 0} (old new : Hallful D) : Type 0 where
  pub mid : Hallful D
  pub answered : IsAnswered old mid
  pub pieces : AreSteps (length mid.desks + 1) mid new

-- ---- what departed

-- these are set one by one
abbrev pub AreSet : {D : Type 0} → Hallful D → List Control → Hallful D → Type 0
AreSet {D} old [] new = new ≡ old
AreSet {D} old (control ∷ controls) new = (mid : Hallful D) × IsSet old mid control × AreSet mid controls new

-- so are the first of them
pub record AreFirstSet {D : Type 0} (old : Hallful D) (controls : List Control) (new : Hallful D) : Type 0 where
  pub front : List Control
  pub rest : List Control
  pub parts : controls ≡ front ++ rest
  pub are_set : AreSet old front new

-- the manager's day stands, and not each leg that departed before it is closed
abbrev pub unclosed_line : List ℕ
unclosed_line = fault_line (codes "- UNCLOSED")

-- the manager is told so
pub record SaysUnclosed (told : Posted) : Type 0 where
  pub session_is : told.session ≡ 0
  pub text_is : told.text ≡ unclosed_line

-- all that departed before the day of the host is set to be closed, or, where memory was wanting, the first of it, and the manager is told that it is not all
abbrev pub AreClosed : {D : Type 0} → Hallful D → Hallful D → Closing → Type 0
AreClosed old new Whole = AreSet old (closings old) new
AreClosed old new (Wanting told) = AreFirstSet old (closings old) new × SaysUnclosed told

-- where the journal has room for a line of each, none of it has a class open then
abbrev pub LeavesNone : {D : Type 0} → Hallful D → Hallful D → Closing → Type 0
LeavesNone old new Whole = length old.serving.journal + length (closings old) ≤ old.serving.cap → closings new ≡ []
LeavesNone old new (Wanting told) = Unit {0}

-- and what is set is answered, ahead of what the manager is told of the rest
pub record IsClosing {D : Type 0} (old new : Hallful D) (closing : Closing) : Type 0 where
  pub mid : Hallful D
  pub closed : AreClosed old mid closing
  pub answered : IsAnswered mid new
  pub none_left : LeavesNone old new closing

pub record IsClosed {D : Type 0} (old new : Hallful D) : Type 0 where
  pub closing : Closing
  pub is : IsClosing old new closing

-- what departed is closed, where it is to be
abbrev pub IsClosedIf : {D : Type 0} → Bool → Hallful D → Hallful D → Type 0
IsClosedIf true old new = IsClosed old new
IsClosedIf false old new = new ≡ old

-- a word to the host is answered, and behind a day that the manager gives what departed is closed, by a host that closes it
pub record IsWordClosed {D : Type 0} (closes : Bool) (old new : Hallful D) : Type 0 where
  pub mid : Hallful D
  pub answered : IsWordAnswered old mid
  pub closed : IsClosedIf (closes && is_day_given old.turns) mid new

-- ---- a line

-- a line of a session that no desk has is passed over
pub record IsNobodys {D : Type 0} (old new : Hallful D) (one : Said) : Type 0 where
  pub nobodys : length old.desks < one.session
  pub same : new ≡ old

-- memory was wanting for a line of the manager, or of a session's desk: it counts, and nothing comes of it
abbrev pub IsUnheardAs : {D : Type 0} → Bool → Hallful D → Hallful D → ℕ → List ℕ → Type 0
IsUnheardAs true old new session line = IsUnordered old new
IsUnheardAs false old new session line = IsUnheard old new session line

-- it counts behind so many lines of it that were answered where they were read
pub record IsForgotten {D : Type 0} (old new : Hallful D) (session passed : ℕ) (line : List ℕ) : Type 0 where
  pub mid : Hallful D
  pub is_passed : IsPassed old mid session passed
  pub is_unheard : IsUnheardAs (session == 0) mid new session line

-- how many lines the manager has said, or a session's desk
pub record HasSaid {D : Type 0} (hall : Hallful D) (session number : ℕ) : Type 0 where
  pub manager : session ≡ 0 → number ≡ hall.manager.lines
  pub desk : 1 ≤ session → (desk : Desk) → slice_get hall.desks (session - 1) ≡ Some desk → number ≡ desk.lines

-- its desk is told that memory was wanting for its last line
pub record SaysWanting {D : Type 0} (hall : Hallful D) (session : ℕ) (told : Posted) : Type 0 where
  pub number : ℕ
  pub has_said : HasSaid hall session number
  pub session_is : told.session ≡ session
  pub text_is : told.text ≡ memory_line session number

-- all ahead of it is answered, and then its desk is told so
pub record IsWanting {D : Type 0} (old new : Hallful D) (session passed : ℕ) (line : List ℕ) (told : Posted) : Type 0 where
  pub mid : Hallful D
  pub forgotten : IsForgotten old mid session passed line
  pub answered : IsAnswered mid new
  pub says : SaysWanting mid session told

-- what becomes of a line: nobody's is passed over, and it is heard, or forgotten
abbrev pub IsTakenUp : {D : Type 0} → Hallful D → Hallful D → Said → Taking → Type 0
IsTakenUp old new one Nobodys = IsNobodys old new one
IsTakenUp old new one (Heard goes) = IsHeardBehind one.is_earlier old new one.session one.passed one.line.items goes
IsTakenUp old new one (Forgotten told) = IsWanting old new one.session one.passed one.line.items told

-- only a line that is heard may end the host
abbrev pub goes_on : Taking → Bool
goes_on (Heard goes) = goes
goes_on taking = true

-- where its desk was told all that it asked for ahead of it
pub record IsTaken {D : Type 0} (old new : Hallful D) (one : Said) (goes : Bool) : Type 0 where
  pub first : Hallful D
  pub caught : IsCaughtUp old first one.session
  pub taking : Taking
  pub taken : IsTakenUp first new one taking
  pub goes_is : goes ≡ goes_on taking

-- a word to the host that is no look is heard behind the answers to all ahead of it, and answered ahead of all behind it; so is what a host that closes
-- what departed closes behind a day
pub record IsTakenApart {D : Type 0} (closes : Bool) (old new : Hallful D) (one : Said) (goes : Bool) : Type 0 where
  pub mid : Hallful D
  pub taken : IsTaken old mid one goes
  pub answered : IsWordClosed closes mid new

pub record IsBetween {D : Type 0} (closes : Bool) (old new : Hallful D) (one : Said) (goes : Bool) : Type 0 where
  pub first : Hallful D
  pub ahead : IsAnswered old first
  pub apart : IsTakenApart closes first new one goes

abbrev pub IsOneBy : {D : Type 0} → Bool → Bool → Hallful D → Hallful D → Said → Bool → Type 0
IsOneBy true closes old new one goes = IsBetween closes old new one goes
IsOneBy false closes old new one goes = IsTaken old new one goes

abbrev pub IsOne : {D : Type 0} → Bool → Hallful D → Hallful D → Said → Bool → Type 0
IsOne closes old new one goes = IsOneBy (is_apart one.line.items) closes old new one goes

-- ---- groups

-- one line behind the other; the host goes on where none of them ends it
abbrev pub AreTaken : {D : Type 0} → Bool → Hallful D → List Said → Hallful D → Bool → Type 0
AreTaken {D} closes old [] new goes = (new ≡ old) × (goes ≡ true)
AreTaken {D} closes old (one ∷ said) new goes =
    (mid : Hallful D) × (first more : Bool) × IsOne closes old mid one first × AreTaken closes mid said new more × (goes ≡ (first && more))

-- each line of a group is taken once, in their order, all of them are answered, and then whoever is behind and has room is told a piece
pub record IsGroup {D : Type 0} (closes : Bool) (old : Hallful D) (said : List Said) (new : Hallful D) (goes : Bool) : Type 0 where
  pub mid : Hallful D
  pub taken : AreTaken closes old said mid goes
  pub answered : IsToldOn mid new

-- one group behind the other, none of which ends the host
abbrev pub AreGroups : {D : Type 0} → Bool → Hallful D → List (List Said) → Hallful D → Type 0
AreGroups {D} closes old [] new = new ≡ old
AreGroups {D} closes old (said ∷ groups) new = (mid : Hallful D) × IsGroup closes old said mid true × AreGroups closes mid groups new

pub record GoesThrough {D : Type 0} (closes : Bool) (old new : Hallful D) : Type 0 where
  pub groups : List (List Said)
  pub are : AreGroups closes old groups new

-- and the last ends it
pub record IsServed {D : Type 0} (closes : Bool) (old new : Hallful D) : Type 0 where
  pub mid : Hallful D
  pub goes : GoesThrough closes old mid
  pub last : List Said
  pub ends : IsGroup closes mid last new false

-- ---- a whole service

-- eight desks and a manager over this inventory, of whom nobody has said hello
pub record IsHallOver {D : Type 0} (flights : List Flown) (serving : Served D) (today epoch : ℕ) (hall : Hallful D) : Type 0 where
  pub flights_are : hall.flights ≡ flights
  pub serving_is : hall.serving ≡ serving
  pub today_is : hall.today ≡ today
  pub none_asked : hall.asked ≡ []
  pub none_told : hall.turns ≡ []
  pub none_behind : hall.backlogs ≡ replicate 9 None
  pub eight : length hall.desks ≡ 8
  pub manager : IsSilentAt epoch hall.manager
  pub silent : All (IsSilentAt epoch) hall.desks

-- the journal is that of the groups that were answered up to the manager's end, by a host that closes what departed behind each day, or does not
pub record IsServedTo {D : Type 0} (closes : Bool) (flights : List Flown) (serving : Served D) (today epoch : ℕ) (journal : List Entry)
    : Type 0 where
  pub old : Hallful D
  pub new : Hallful D
  pub over : IsHallOver flights serving today epoch old
  pub served : IsServed closes old new
  pub journal_is : journal ≡ new.serving.journal
