-- What comes of a line of the manager or of a session in a feed.
use Rattle.std.specs.Prelude.{◌≡◌, ◌≤◌, ◌<◌, ◌+◌, ℕ, IfSome, Bool, true, false, List, [], ◌∷◌, ◌++◌, length, take, drop, set, slice_get, Some, option_to_list}
use Rattle.desk_feed.specs.Feeding.{IsStrange, Lives}
use Rattle.desk_lines.specs.declared.desk.Desk.{Desk}
use Rattle.desk_stream.specs.Meaning.{IsMeant}
use Rattle.desk_stream.specs.Planning.{IsComeTo, Passes, Plans}
use Rattle.desk_stream.specs.Wanting.{asking_of, IsVery}
use Rattle.desk_stream.specs.declared.hearing.Pending.{Pending}
use Rattle.desk_stream.specs.declared.meant.Meant.{Meant}
use Rattle.desk_stream.specs.declared.meant.Meant.TheVariants as meants
use Rattle.desk_stream.specs.declared.planning.Called.{Called}
use Rattle.desk_stream.specs.declared.planning.Plan.{Plan}
use Rattle.desk_stream.specs.declared.reading.Step.{Step}
use Rattle.desk_stream.specs.declared.reading.Step.TheVariants as steps
use Rattle.desk_stream.specs.declared.telling.FeedTurn.{FeedTurn}
use Rattle.desk_stream.specs.declared.telling.FeedTurn.TheVariants as turns
use Rattle.desk_stream.specs.declared.wanted.Wanted.{Wanted}
use Rattle.seat_journal.specs.declared.entry.Entry.{Entry}
use Rattle.seat_serving.specs.Answering.{behind, AreRight, IsRight}
use Rattle.seat_serving.specs.Served.{Served}
use Rattle.ssim_flights.specs.declared.flight.Flight.{Flight as Flown}

-- the lines that are there, and those that are asked for
abbrev pub lines_with : {D : Type 0} → Served D → Pending → List Entry
lines_with serving pending = behind serving.grid serving.journal pending.asked.items

-- those that the feed has come to, and those that are ahead of it
abbrev pub come_to : {D : Type 0} → Served D → Pending → List Entry
come_to serving pending = take pending.progress.lines (lines_with serving pending)

abbrev pub ahead_of : {D : Type 0} → Served D → Pending → List Entry
ahead_of serving pending = drop pending.progress.lines (lines_with serving pending)

-- the feed has come so far, and what is asked for is right and has room
pub record IsWaiting {D : Type 0} (serving : Served D) (pending : Pending) : Type 0 where
  pub come : IsComeTo serving.grid serving.journal pending.asked.items pending.progress
  pub right : AreRight serving.grid pending.asked.items
  pub room : length serving.journal + length pending.asked.items ≤ serving.cap

-- what is planned asks for what is right, where there is room for it
pub record IsRightPlan {D : Type 0} (serving : Served D) (pending : Pending) (plan : Plan) : Type 0 where
  pub right : IfSome plan.asked (IsRight serving.grid)
  pub room : IfSome plan.asked (λ a. length serving.journal + length pending.asked.items < serving.cap)

pub record IsSamePending (old new : Pending) : Type 0 where
  pub progress_is : new.progress ≡ old.progress
  pub asked_is : new.asked.items ≡ old.asked.items
  pub turns_are : new.turns.items ≡ old.turns.items

-- a line is answered so, and nothing comes of it
pub record IsCameTo (old new : Pending) (turn : FeedTurn) : Type 0 where
  pub progress_is : new.progress ≡ old.progress
  pub asked_is : new.asked.items ≡ old.asked.items
  pub turns_are : new.turns.items ≡ old.turns.items ++ turn ∷ []

-- a numbered line comes to what is planned for it by the calls of then: so the feed is lived
pub record IsPlanned {D : Type 0} (flights : List Flown) (serving : Served D) (old new : Pending) (desk : Desk) (c : Called)
    : Type 0 where
  pub plan : Plan
  pub plans : Plans flights serving.cap c desk (come_to serving old) (ahead_of serving old) plan
  pub right : IsRightPlan serving old plan
  pub asked_is : new.asked.items ≡ old.asked.items ++ option_to_list plan.asked
  pub turns_are : new.turns.items ≡ old.turns.items ++ turns.Desk plan.turn ∷ []
  pub passes : Passes plan.passes old.progress new.progress c.session
  pub lives : Lives serving.grid serving.cap (asking_of flights c) (IsVery flights c.wanted) (come_to serving old)
      (ahead_of serving old) (come_to serving new) (ahead_of serving new)

abbrev pub called_by : ℕ → ℕ → Wanted → Called
called_by session number wanted = record { session = session; number = number; wanted = wanted }

-- one that is for another journal is refused
abbrev pub CallsBy : {D : Type 0} → Bool → List Flown → Served D → Pending → Pending → Desk → Called → Type 0
CallsBy true flights serving old new desk c = IsPlanned flights serving old new desk c
CallsBy false flights serving old new desk c = IsCameTo old new (turns.Foreign c.session c.number)

abbrev pub ComesBy : {D : Type 0} → List Flown → Served D → Bool → Pending → Pending → ℕ → Desk → Meant → Type 0
ComesBy flights serving own old new session desk (meants.Said turn) = IsCameTo old new (turns.Desk turn)
ComesBy flights serving own old new session desk (meants.Called number wanted) =
    CallsBy own flights serving old new desk (called_by session number wanted)

-- the desk has heard this line on this day, and it means this
pub record HasHeardAt (flights : List Flown) (old new : List Desk) (session today : ℕ) (line : List ℕ) (desk : Desk) (meant : Meant)
    : Type 0 where
  pub was : Desk
  pub stood : slice_get old session ≡ Some was
  pub is_meant : IsMeant flights session (record was { today = today }) desk line meant
  pub desks_are : new ≡ set old session desk

-- and what it means comes to this
pub record ComesTo {D : Type 0} (flights : List Flown) (serving : Served D) (own : Bool) (desks now : List Desk) (old new : Pending)
    (session today : ℕ) (line : List ℕ) : Type 0 where
  pub desk : Desk
  pub meant : Meant
  pub has_heard : HasHeardAt flights desks now session today line desk meant
  pub comes : ComesBy flights serving own old new session desk meant

-- a numbered line is no line of this journal's feed
abbrev pub IsStrangeCall : {D : Type 0} → List Flown → Served D → Pending → Called → Type 0
IsStrangeCall flights serving pending c =
    IsStrange (asking_of flights c) (IsVery flights c.wanted) (come_to serving pending) (ahead_of serving pending)

abbrev pub IsStrangeBy : {D : Type 0} → List Flown → Served D → Bool → Pending → ℕ → Meant → Type 0
IsStrangeBy flights serving own pending session (meants.Said turn) = ⊥
IsStrangeBy flights serving own pending session (meants.Called number wanted) =
    (own ≡ true) × IsStrangeCall flights serving pending (called_by session number wanted)

-- the line means a numbered request that is none
pub record IsStrangeTo {D : Type 0} (flights : List Flown) (serving : Served D) (own : Bool) (desks : List Desk) (pending : Pending)
    (session today : ℕ) (line : List ℕ) : Type 0 where
  pub now : List Desk
  pub desk : Desk
  pub meant : Meant
  pub has_heard : HasHeardAt flights desks now session today line desk meant
  pub strange : IsStrangeBy flights serving own pending session meant

-- it is a line of this journal's feed, or may be one
pub record IsOwnCall {D : Type 0} (flights : List Flown) (serving : Served D) (pending : Pending) (c : Called) : Type 0 where
  pub none : IsStrangeCall flights serving pending c → ⊥

pub record IsNoStranger {D : Type 0} (flights : List Flown) (serving : Served D) (own : Bool) (pending : Pending) (session : ℕ) (meant : Meant)
    : Type 0 where
  pub none : IsStrangeBy flights serving own pending session meant → ⊥

-- the line means what is no stranger's
pub record IsOwnTo {D : Type 0} (flights : List Flown) (serving : Served D) (own : Bool) (desks : List Desk) (pending : Pending)
    (session today : ℕ) (line : List ℕ) : Type 0 where
  pub now : List Desk
  pub desk : Desk
  pub meant : Meant
  pub has_heard : HasHeardAt flights desks now session today line desk meant
  pub no_stranger : IsNoStranger flights serving own pending session meant

-- for a row of the manager memory may be wanting ahead of what it means
pub record IsOwnOf {D : Type 0} (flights : List Flown) (serving : Served D) (own : Bool) (desks : List Desk) (pending : Pending)
    (session today : ℕ) (line : List ℕ) : Type 0 where
  pub of_session : (session ≡ 0 → ⊥) → IsOwnTo flights serving own desks pending session today line

-- ---- by what stands at the front of a line of the feed; a session's own line is behind its digit and its blank

abbrev pub HearsBy : {D : Type 0} → Step → List Flown → Served D → Bool → List Desk → List Desk → Pending → Pending → List ℕ → Type 0
HearsBy (steps.Told turn) flights serving own desks now old new line = IsCameTo old new turn × (now ≡ desks)
HearsBy steps.Silent flights serving own desks now old new line = IsSamePending old new × (now ≡ desks)
HearsBy (steps.Line session today) flights serving own desks now old new line =
    ComesTo flights serving own desks now old new session today (drop 2 line)

abbrev pub IsStrangeStep : {D : Type 0} → Step → List Flown → Served D → Bool → List Desk → Pending → List ℕ → Type 0
IsStrangeStep (steps.Told turn) flights serving own desks pending line = ⊥
IsStrangeStep steps.Silent flights serving own desks pending line = ⊥
IsStrangeStep (steps.Line session today) flights serving own desks pending line =
    IsStrangeTo flights serving own desks pending session today (drop 2 line)

abbrev pub IsOwnStep : {D : Type 0} → Step → List Flown → Served D → Bool → List Desk → Pending → List ℕ → Type 0
IsOwnStep (steps.Told turn) flights serving own desks pending line = Unit {0}
IsOwnStep steps.Silent flights serving own desks pending line = ⊥
IsOwnStep (steps.Line session today) flights serving own desks pending line =
    IsOwnOf flights serving own desks pending session today (drop 2 line)
