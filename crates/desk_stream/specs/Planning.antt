-- What a numbered line of a feed comes to, by the calls of then.
use Rattle.std.specs.Prelude.{◌≡◌, ◌≤◌, ◌<◌, ℕ, Bool, true, false, nat_lt, List, [], ◌∷◌, length, Some, None}
use Rattle.desk_feed.specs.Feeding.{IsItsLine}
use Rattle.desk_feed.specs.Progress.{kind_of, HasPassed, IsProgress}
use Rattle.desk_feed.specs.declared.progress.CallKind.{CallKind}
use Rattle.desk_feed.specs.declared.progress.CallKind.TheVariants.{Next, There, Beyond}
use Rattle.desk_feed.specs.declared.progress.Progress.{Progress}
use Rattle.desk_hall.specs.declared.turn.Turn.{Turn}
use Rattle.desk_hall.specs.declared.turn.Turn.TheVariants.{Line, Full, Quiet}
use Rattle.desk_lines.specs.declared.desk.Desk.{Desk}
use Rattle.desk_lines.specs.declared.desk.Meaning.TheVariants.{WrongCall}
use Rattle.desk_lines.specs.declared.desk.Wrong.TheVariants as faults
use Rattle.desk_stream.specs.Wanting.{asked_for, asking_of, repeat_of, IsVery}
use Rattle.desk_stream.specs.declared.planning.Called.{Called}
use Rattle.desk_stream.specs.declared.planning.Plan.{Plan}
use Rattle.seat_journal.specs.declared.entry.Entry.{Entry}
use Rattle.seat_nesting.specs.Nesting.{Ladders}
use Rattle.seat_rules.specs.Journal.{calls_of}
use Rattle.seat_serving.specs.Answering.{behind}
use Rattle.seat_serving.specs.declared.asked.Asked.{Asked}
use Rattle.ssim_flights.specs.declared.flight.Flight.{Flight as Flown}

-- the feed has come so far in the lines that are there and those that are asked for: to all of them where it has come to all that are
-- there; and where it hasn't, nothing is asked for
pub record IsComeTo (grid : Ladders) (journal : List Entry) (asked : List Asked) (progress : Progress) : Type 0 where
  pub is_progress : IsProgress (behind grid journal asked) progress
  pub live : length journal ≤ progress.lines → progress.lines ≡ length (behind grid journal asked)
  pub ahead : progress.lines < length journal → asked ≡ []

-- it is answered so, and nothing comes of it
pub record IsTold (turn : Turn) (plan : Plan) : Type 0 where
  pub turn_is : plan.turn ≡ turn
  pub none : plan.asked ≡ None
  pub stays : plan.passes ≡ false

-- the line of the journal at this place is its own: it is lived again
pub record PlansAhead (flights : List Flown) (c : Called) (e : Entry) (place : ℕ) (plan : Plan) : Type 0 where
  pub own : IsItsLine (asking_of flights c) (IsVery flights c.wanted) e
  pub turn_is : plan.turn ≡ Line place
  pub none : plan.asked ≡ None
  pub passes : plan.passes ≡ true

pub record PlansBooked (flights : List Flown) (c : Called) (place : ℕ) (plan : Plan) : Type 0 where
  pub turn_is : plan.turn ≡ Line place
  pub asked_is : plan.asked ≡ Some (asked_for flights c.session c.wanted)
  pub passes : plan.passes ≡ true

-- behind the last line it is booked where there is room
abbrev pub PlansLive : Bool → List Flown → Called → ℕ → Plan → Type 0
PlansLive true flights c place plan = PlansBooked flights c place plan
PlansLive false flights c place plan = IsTold (Full c.session c.number) plan

abbrev pub PlansNext : List Flown → ℕ → Called → List Entry → List Entry → Plan → Type 0
PlansNext flights cap c past [] plan = PlansLive (nat_lt (length past) cap) flights c (length past) plan
PlansNext flights cap c past (e ∷ ahead) plan = PlansAhead flights c e (length past) plan

-- the next line of the journal is not its own
abbrev pub IsNextStrange : List Flown → Called → List Entry → Type 0
IsNextStrange flights c [] = ⊥
IsNextStrange flights c (e ∷ ahead) = IsItsLine (asking_of flights c) (IsVery flights c.wanted) e → ⊥

-- a call that is there is told once more, and one that is beyond the next is refused
abbrev pub PlansBy : CallKind → List Flown → ℕ → Called → Desk → List Entry → List Entry → Plan → Type 0
PlansBy Next flights cap c desk past ahead plan = PlansNext flights cap c past ahead plan
PlansBy There flights cap c desk past ahead plan = IsTold (repeat_of c.session c.number c.wanted) plan
PlansBy Beyond flights cap c desk past ahead plan = IsTold (Quiet c.session desk (WrongCall c.number faults.Beyond)) plan

-- by the calls that its session has in the lines that the feed has come to
pub record Plans (flights : List Flown) (cap : ℕ) (c : Called) (desk : Desk) (past ahead : List Entry) (plan : Plan) : Type 0 where
  pub comes : PlansBy (kind_of (calls_of past c.session) c.number) flights cap c desk past ahead plan

-- the feed has come to a line more, or stays where it is
abbrev pub Passes : Bool → Progress → Progress → ℕ → Type 0
Passes true old new session = HasPassed old new session
Passes false old new session = new ≡ old
