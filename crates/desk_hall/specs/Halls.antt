-- A host of several desks, and what a line of one of them leaves.
use Rattle.std.specs.Prelude.{◌≡◌, ◌≤◌, ◌-◌, ◌+◌, ◌^◌, ◌==◌, ℕ, min, nat_lt, Bool, true, false, List, [], ◌∷◌, ◌++◌, length, set, slice_get, Option, Some, None}
use Rattle.std.specs.Prelude.{option_to_list}
use Rattle.airline_base.specs.Days.{IsCenturyDay}
use Rattle.desk_answers.specs.Saying.{HasHeard}
use Rattle.desk_calls.specs.declared.call_index.CallIndex.{CallIndex}
use Rattle.desk_lines.specs.Lines.{next_number}
use Rattle.desk_lines.specs.declared.desk.Desk.{Desk}
use Rattle.desk_lines.specs.declared.desk.Meaning.{Meaning}
use Rattle.desk_telling.specs.Telling.{AreTold}
use Rattle.desk_hall.specs.Orders.{IsOrder}
use Rattle.desk_hall.specs.Pieces.{backlog_behind, backlog_of, piece_end, told_between}
use Rattle.desk_hall.specs.Planning.{Plans, PlansOrder, PlansRow, day_behind, goes_on}
use Rattle.desk_hall.specs.Telling.{IsTurn}
use Rattle.desk_hall.specs.declared.backlog.Asking.{Asking}
use Rattle.desk_hall.specs.declared.orders.Order.{Order}
use Rattle.desk_hall.specs.declared.planning.Plan.{Plan}
use Rattle.desk_hall.specs.declared.turn.Turn.{Turn}
use Rattle.ssim_flights.specs.declared.flight.Flight.{Flight as Flown}
use Rattle.seat_desk.specs.FlightsDesk.{IsText}
use Rattle.seat_desk.specs.Loading.{IsGridOf}
use Rattle.seat_replies.specs.RunDesk.{at_any}
use Rattle.seat_journal.specs.declared.entry.Control.{Control}
use Rattle.seat_serving.specs.Answering.{behind, AreRight}
use Rattle.seat_serving.specs.Served.{Served}
use Rattle.seat_serving.specs.declared.asked.Asked.{Asked}

-- what contracts see of it: the first desk is that of session 1, and the manager is session 0. What is asked for is not booked yet, and how each line is answered is
-- not told yet. Who asked to be told again, and was not told all yet, has a backlog: the line behind which it goes on
pub record Hallful (D : Type 0) : Type 0 where
  pub flights : List Flown
  pub serving : Served D
  pub today : ℕ
  pub desks : List Desk
  pub manager : Desk
  pub asked : List Asked
  pub turns : List Turn
  pub backlogs : List (Option ℕ)

-- the inventory is over the legs of these flights, and has room for what is asked for, which is right
pub record IsHall {D : Type 0} (flights served : List Flown) (serving : Served D) (today : ℕ) (desks : List Desk)
    (calls : List CallIndex) (asked : List Asked) : Type 0 where
  pub served_is : served ≡ flights
  pub grid_is : IsGridOf flights serving.grid
  pub today_is : IsCenturyDay today
  pub few : length desks ≤ 8
  pub calls_are : length calls ≡ length desks + 1
  pub right : AreRight serving.grid asked
  pub room : length serving.journal + length asked ≤ serving.cap

-- all but the inventory and what is asked for is the same
pub record IsSameHall {D : Type 0} (old new : Hallful D) : Type 0 where
  pub flights_are : new.flights ≡ old.flights
  pub today_is : new.today ≡ old.today
  pub desks_are : new.desks ≡ old.desks
  pub manager_is : new.manager ≡ old.manager
  pub turns_are : new.turns ≡ old.turns
  pub backlogs_are : new.backlogs ≡ old.backlogs
  pub grid_is : new.serving.grid ≡ old.serving.grid
  pub cap_is : new.serving.cap ≡ old.serving.cap

-- a session's desk has heard this line on this day, and it means this
pub record HasHeardLine (old new : List Desk) (today session : ℕ) (line : List ℕ) (desk : Desk) (meaning : Meaning) : Type 0 where
  pub was : Desk
  pub stood : slice_get old (session - 1) ≡ Some was
  pub heard : HasHeard (record was { today = today }) desk line meaning
  pub desks_are : new ≡ set old (session - 1) desk

-- nothing is booked by it
pub record IsSameHost {D : Type 0} (old new : Hallful D) : Type 0 where
  pub serving_is : new.serving ≡ old.serving
  pub today_is : new.today ≡ old.today
  pub flights_are : new.flights ≡ old.flights
  pub backlogs_are : new.backlogs ≡ old.backlogs

-- the manager's line, which was said ahead of the host's start or behind it, asks for this, which comes to this behind what was heard before it: lines are read on another day, the host goes on or
-- not, and nothing is booked by it
pub record IsOrdered {D : Type 0} (is_earlier : Bool) (old new : Hallful D) (line : List ℕ) (goes : Bool) : Type 0 where
  pub order : Order
  pub is_order : IsOrder is_earlier old.flights (record old.manager { today = old.today }) new.manager line order
  pub day_is : new.today ≡ day_behind old.today order
  pub goes_is : goes ≡ goes_on order
  pub plan : Plan
  pub plans : PlansOrder old.serving.cap new.manager new.today (behind old.serving.grid old.serving.journal old.asked) order plan
  pub asked_is : new.asked ≡ old.asked ++ option_to_list plan.asked
  pub turns_are : new.turns ≡ old.turns ++ plan.turn ∷ []
  pub desks_are : new.desks ≡ old.desks
  pub serving_is : new.serving ≡ old.serving
  pub flights_are : new.flights ≡ old.flights
  pub backlogs_are : new.backlogs ≡ old.backlogs

-- memory was wanting: the line counts, and nothing comes of it
pub record IsUnordered {D : Type 0} (old new : Hallful D) : Type 0 where
  pub counted : new.manager.lines ≡ next_number old.manager.lines
  pub asked_is : new.asked ≡ old.asked
  pub turns_are : new.turns ≡ old.turns
  pub desks_are : new.desks ≡ old.desks
  pub same_host : IsSameHost old new

-- what the host sets by itself comes to what a row of the manager without a number does
pub record IsSet {D : Type 0} (old new : Hallful D) (control : Control) : Type 0 where
  pub plan : Plan
  pub plans : PlansRow (nat_lt (length (behind old.serving.grid old.serving.journal old.asked)) old.serving.cap)
      (behind old.serving.grid old.serving.journal old.asked) control plan
  pub asked_is : new.asked ≡ old.asked ++ option_to_list plan.asked
  pub turns_are : new.turns ≡ old.turns ++ plan.turn ∷ []
  pub desks_are : new.desks ≡ old.desks
  pub manager_is : new.manager ≡ old.manager
  pub same_host : IsSameHost old new

-- and what it comes to stands behind what was heard before it
pub record IsHeardBy {D : Type 0} (old new : Hallful D) (session : ℕ) (line : List ℕ) : Type 0 where
  pub desk : Desk
  pub meaning : Meaning
  pub has_heard : HasHeardLine old.desks new.desks old.today session line desk meaning
  pub same_host : IsSameHost old new
  pub plan : Plan
  pub plans : Plans old.flights old.serving.cap session desk (behind old.serving.grid old.serving.journal old.asked) meaning plan
  pub asked_is : new.asked ≡ old.asked ++ option_to_list plan.asked
  pub turns_are : new.turns ≡ old.turns ++ plan.turn ∷ []
  pub manager_is : new.manager ≡ old.manager

-- memory was wanting: the line counts, and nothing comes of it
pub record IsUnheard {D : Type 0} (old new : Hallful D) (session : ℕ) (line : List ℕ) : Type 0 where
  pub desk : Desk
  pub meaning : Meaning
  pub has_heard : HasHeardLine old.desks new.desks old.today session line desk meaning
  pub same_host : IsSameHost old new
  pub asked_is : new.asked ≡ old.asked
  pub turns_are : new.turns ≡ old.turns
  pub manager_is : new.manager ≡ old.manager

-- lines count up to the highest number
abbrev pub lines_behind : ℕ → ℕ → ℕ
lines_behind lines more = min (lines + more) (2 ^ 32 - 1)

-- a desk has said so many lines more
abbrev pub counted : Desk → ℕ → Desk
counted desk more = record desk { lines = lines_behind desk.lines more }

-- the manager has, or a session's desk
abbrev pub IsCounted : Bool → Desk → Desk → List Desk → List Desk → ℕ → ℕ → Type 0
IsCounted true was manager old new session more = (manager ≡ counted was more) × (new ≡ old)
IsCounted false was manager old new session more =
    (manager ≡ was) × (desk : Desk) × (slice_get old (session - 1) ≡ Some desk)
    × (new ≡ set old (session - 1) (counted desk more))

-- so many lines of it were answered where they were read
pub record IsPassed {D : Type 0} (old new : Hallful D) (session more : ℕ) : Type 0 where
  pub counted_is : IsCounted (session == 0) old.manager new.manager old.desks new.desks session more
  pub same_host : IsSameHost old new
  pub asked_is : new.asked ≡ old.asked
  pub turns_are : new.turns ≡ old.turns
  pub count_is : length new.desks ≡ length old.desks

-- ---- what is told

-- who is not behind is told of each line that was heard, in their order; who is behind is told nothing of them, since what concerns it comes with its
-- pieces
abbrev pub IsToldBy : Option ℕ → (List ℕ → Type 0) → List ℕ → Type 0
IsToldBy None is text = is text
IsToldBy (Some backlog) is text = text ≡ []

abbrev pub IsToldTo : {D : Type 0} → Hallful D → ℕ → List ℕ → Type 0
IsToldTo hall session text =
    IsToldBy (backlog_of hall.backlogs session)
    (IsText (at_any (IsTurn hall.flights hall.serving.grid hall.serving.journal session)) 0 hall.turns) text

-- a desk that asked to be told again, and nothing else was heard, is behind from there on, or from the last line of the journal where that is
-- ahead of it. No other line is to be told
abbrev pub IsOpened : {D : Type 0} → Option Asking → Hallful D → Hallful D → Type 0
IsOpened None old new = new ≡ old
IsOpened (Some asking) old new =
    new ≡ (record old {
      turns = [];
      backlogs = set old.backlogs asking.asker (Some (min asking.from (length old.serving.journal)));
    })

-- a piece of so many lines at most is told, and it is behind from there on, or no more where that was the last line of the journal
abbrev pub IsPieceUpTo : {D : Type 0} → ℕ → ℕ → Hallful D → Hallful D → ℕ → List ℕ → Type 0
IsPieceUpTo from upto old new session text =
    AreTold old.flights session (told_between old.serving.journal session from upto) text
    × (new ≡ (record old { backlogs = set old.backlogs session (backlog_behind upto (length old.serving.journal)) }))

abbrev pub IsPieceFrom : {D : Type 0} → Option ℕ → Hallful D → Hallful D → ℕ → ℕ → List ℕ → Type 0
IsPieceFrom None old new session most text = (text ≡ []) × (new ≡ old)
IsPieceFrom (Some from) old new session most text =
    IsPieceUpTo from (piece_end from most (length old.serving.journal)) old new session text

abbrev pub IsPiece : {D : Type 0} → Hallful D → Hallful D → ℕ → ℕ → List ℕ → Type 0
IsPiece old new session most text = IsPieceFrom (backlog_of old.backlogs session) old new session most text
