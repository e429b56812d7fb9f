-- A host of several desks behind a line.
use Rattle.std.proofs.Common.{◌≡◌, ℕ, zero, suc, ◌+◌, ◌<◌, ◌≤◌, List, [], ◌∷◌, ◌++◌, length, take, set, refl, ap, sym, ◌∙◌, subst, arith, append-nil, length-append}
use Rattle.std.specs.Prelude.{Option, Some, None, Bool, true, false, min, nat_lt, if◌then◌else◌, IfSome, All, Result, Ok, Err, OnErr, OnOk}
use Rattle.std.specs.Prelude.{option_to_list}
use Rattle.std.proofs.Math.Seq.{take-append_seam}
use Rattle.std.proofs.lemmas.List.Elements.{All-append}
use Rattle.desk_calls.specs.declared.call_index.CallIndex.{CallIndex}
use Rattle.desk_hall.specs.Halls.{Hallful, HasHeardLine, IsHall, IsHeardBy, IsOpened, IsOrdered, IsPiece, IsPieceFrom, IsPieceUpTo, IsSameHost, IsSet, IsUnheard}
use Rattle.desk_hall.specs.Pieces.{again_asked, backlog_behind, backlog_of, piece_end, told_between}
use Rattle.desk_hall.specs.declared.backlog.Asking.{Asking}
use Rattle.desk_telling.specs.Telling.{AreTold}
use Rattle.desk_hall.proofs.Pieces.{no_backlog, whole_end}
use Rattle.desk_hall.specs.Planning.{Plans, PlansOrder, PlansRow, day_behind, goes_on}
use Rattle.desk_hall.specs.Orders.{IsOrder}
use Rattle.desk_hall.specs.declared.orders.Order.{Order}
use Rattle.airline_base.specs.Days.{IsCenturyDay}
use Rattle.desk_hall.specs.declared.planning.Plan.{Plan}
use Rattle.desk_hall.specs.declared.turn.Turn.{Turn}
use Rattle.desk_lines.specs.declared.desk.Desk.{Desk}
use Rattle.desk_lines.specs.declared.desk.Meaning.{Meaning}
use Rattle.ssim_flights.specs.declared.flight.Flight.{Flight as Flown}
use Rattle.seat_desk.specs.Loading.{IsGridOf}
use Rattle.seat_journal.specs.declared.entry.Control.{Control}
use Rattle.seat_nesting.specs.Nesting.{Ladders}
use Rattle.seat_serving.specs.Answering.{behind, AreRight, IsRight}
use Rattle.seat_serving.specs.Served.{Served}
use Rattle.seat_serving.specs.declared.asked.Asked.{Asked}

-- what was added is cut off
pub cut_turn : (old mid new : List Turn) (turn : Turn) → mid ≡ old ++ turn ∷ [] → new ≡ take (length old) mid → new ≡ old
cut_turn old mid new turn more cut =
    cut ∙ ap (take (length old)) more ∙ take-append_seam old (turn ∷ [])

-- what is asked for is right, and there is room for it
pub right_more : (grid : Ladders) (old new : List Asked) (more : Option Asked) → AreRight grid old → IfSome more (IsRight grid)
    → new ≡ old ++ option_to_list more → AreRight grid new
right_more grid old new None right one is = subst (AreRight grid) (sym (is ∙ append-nil old)) right
right_more grid old new (Some a) right one is =
    subst (AreRight grid) (sym is) (record { each = All-append (IsRight grid) old (a ∷ []) right.each (λ k d lt. only k d lt) })
  where
    only : All (IsRight grid) (a ∷ [])
    only zero d lt = one
    only (suc k) d lt = absurd (omega (arith, lt))

pub room_more : (lines cap : ℕ) (old new : List Asked) (more : Option Asked) → lines + length old ≤ cap
    → IfSome more (λ a. lines + length old < cap) → new ≡ old ++ option_to_list more → lines + length new ≤ cap
room_more lines cap old new None room one is = omega (arith, room, ap length is, length-append old [])
room_more lines cap old new (Some a) room one is = omega (arith, one, ap length is, length-append old (a ∷ []))

-- ---- the host behind a line

module _ {D : Type 0} where
  pub heard_by : (old new : Hallful D) (session : ℕ) (line : List ℕ) (desk : Desk) (meaning : Meaning) (plan : Plan)
      → HasHeardLine old.desks new.desks old.today session line desk meaning
      → Plans old.flights old.serving.cap session desk (behind old.serving.grid old.serving.journal old.asked) meaning plan
      → new.asked ≡ old.asked ++ option_to_list plan.asked → new.turns ≡ old.turns ++ plan.turn ∷ []
      → new.serving ≡ old.serving → new.today ≡ old.today → new.flights ≡ old.flights → new.backlogs ≡ old.backlogs → new.manager ≡ old.manager
      → IsHeardBy old new session line
  heard_by old new session line desk meaning plan heard plans asked turns serving today flights backlogs manager = record {
    desk = desk;
    meaning = meaning;
    has_heard = heard;
    same_host = record { serving_is = serving; today_is = today; flights_are = flights; backlogs_are = backlogs };
    plan = plan;
    plans = plans;
    asked_is = asked;
    turns_are = turns;
    manager_is = manager;
  }

  -- where it was added
  pub heard_if : {A E : Type 0} (old new : Hallful D) (session : ℕ) (line : List ℕ) (desk : Desk) (meaning : Meaning) (plan : Plan) (r : Result A E)
      → HasHeardLine old.desks new.desks old.today session line desk meaning
      → Plans old.flights old.serving.cap session desk (behind old.serving.grid old.serving.journal old.asked) meaning plan
      → OnOk r ((new.asked ≡ old.asked ++ option_to_list plan.asked) × (new.turns ≡ old.turns ++ plan.turn ∷ []))
      → new.serving ≡ old.serving → new.today ≡ old.today → new.flights ≡ old.flights → new.backlogs ≡ old.backlogs
      → new.manager ≡ old.manager → OnOk r (IsHeardBy old new session line)
  heard_if old new session line desk meaning plan (Ok x) heard plans more serving today flights backlogs manager =
      heard_by old new session line desk meaning plan heard plans more.0 more.1 serving today flights backlogs manager
  heard_if old new session line desk meaning plan (Err e) heard plans more serving today flights backlogs manager = tt

  pub unheard : (old new : Hallful D) (session : ℕ) (line : List ℕ) (desk : Desk) (meaning : Meaning)
      → HasHeardLine old.desks new.desks old.today session line desk meaning → new.asked ≡ old.asked → new.turns ≡ old.turns
      → new.serving ≡ old.serving → new.today ≡ old.today → new.flights ≡ old.flights → new.backlogs ≡ old.backlogs → new.manager ≡ old.manager
      → IsUnheard old new session line
  unheard old new session line desk meaning heard asked turns serving today flights backlogs manager = record {
    desk = desk;
    meaning = meaning;
    has_heard = heard;
    same_host = record { serving_is = serving; today_is = today; flights_are = flights; backlogs_are = backlogs };
    asked_is = asked;
    turns_are = turns;
    manager_is = manager;
  }

  -- and where it was not
  pub unheard_if : {A E : Type 0} (old new : Hallful D) (session : ℕ) (line : List ℕ) (desk : Desk) (meaning : Meaning) (r : Result A E)
      → HasHeardLine old.desks new.desks old.today session line desk meaning
      → OnErr r ((new.asked ≡ old.asked) × (new.turns ≡ old.turns)) → new.serving ≡ old.serving → new.today ≡ old.today
      → new.flights ≡ old.flights → new.backlogs ≡ old.backlogs → new.manager ≡ old.manager → OnErr r (IsUnheard old new session line)
  unheard_if old new session line desk meaning (Ok x) heard same serving today flights backlogs manager = tt
  unheard_if old new session line desk meaning (Err e) heard same serving today flights backlogs manager =
      unheard old new session line desk meaning heard same.0 same.1 serving today flights backlogs manager

  pub hall_more : (flights served : List Flown) (serving : Served D) (today : ℕ) (desks now : List Desk) (calls : List CallIndex)
      (old new : List Asked) (more : Option Asked) → IsHall flights served serving today desks calls old
      → length now ≡ length desks → IfSome more (IsRight serving.grid)
      → IfSome more (λ a. length serving.journal + length old < serving.cap) → new ≡ old ++ option_to_list more
      → IsHall flights served serving today now calls new
  hall_more flights served serving today desks now calls old new more hall count right room is = record {
    served_is = hall.served_is;
    grid_is = hall.grid_is;
    today_is = hall.today_is;
    few = omega (arith, count, hall.few);
    calls_are = hall.calls_are ∙ ap (λ (n : ℕ). n + 1) (sym count);
    right = right_more serving.grid old new more hall.right right is;
    room = room_more (length serving.journal) serving.cap old new more hall.room room is;
  }

  pub hall_same : (flights served : List Flown) (serving : Served D) (today : ℕ) (desks now : List Desk) (calls : List CallIndex)
      (old new : List Asked) → IsHall flights served serving today desks calls old → length now ≡ length desks → new ≡ old
      → IsHall flights served serving today now calls new
  hall_same flights served serving today desks now calls old new hall count same =
      hall_more flights served serving today desks now calls old new None hall count tt tt (same ∙ sym (append-nil old))

  -- whether it was added or not
  pub hall_either : {A E : Type 0} (P Q : Type 0) (flights served : List Flown) (serving : Served D) (today : ℕ) (desks now : List Desk)
      (calls : List CallIndex) (old new : List Asked) (more : Option Asked) (result : Result A E)
      → IsHall flights served serving today desks calls old → length now ≡ length desks → IfSome more (IsRight serving.grid)
      → IfSome more (λ a. length serving.journal + length old < serving.cap)
      → OnOk result ((new ≡ old ++ option_to_list more) × P) → OnErr result ((new ≡ old) × Q)
      → IsHall flights served serving today now calls new
  hall_either P Q flights served serving today desks now calls old new more (Ok x) hall count right room added same =
      hall_more flights served serving today desks now calls old new more hall count right room added.0
  hall_either P Q flights served serving today desks now calls old new more (Err e) hall count right room added same =
      hall_same flights served serving today desks now calls old new hall count same.0

  pub hall_answered : (flights served : List Flown) (serving behind : Served D) (today : ℕ) (desks : List Desk)
      (calls : List CallIndex) (old new : List Asked) → IsHall flights served serving today desks calls old
      → behind.grid ≡ serving.grid → length behind.journal ≤ behind.cap → new ≡ []
      → IsHall flights served behind today desks calls new
  hall_answered flights served serving behind today desks calls old new hall grid within none = record {
    served_is = hall.served_is;
    grid_is = subst (IsGridOf flights) (sym grid) hall.grid_is;
    today_is = hall.today_is;
    few = hall.few;
    calls_are = hall.calls_are;
    right = subst (AreRight behind.grid) (sym none) (record { each = λ k d lt. absurd (omega (arith, lt)) });
    room = omega (arith, within, ap length none);
  }

  -- ---- and behind a line of the manager

  pub ordered_by : (is_earlier : Bool) (old new : Hallful D) (line : List ℕ) (goes : Bool) (order : Order) (plan : Plan)
      → IsOrder is_earlier old.flights (record old.manager { today = old.today }) new.manager line order
      → new.today ≡ day_behind old.today order → goes ≡ goes_on order
      → PlansOrder old.serving.cap new.manager new.today (behind old.serving.grid old.serving.journal old.asked) order plan
      → new.asked ≡ old.asked ++ option_to_list plan.asked → new.turns ≡ old.turns ++ plan.turn ∷ []
      → new.desks ≡ old.desks → new.serving ≡ old.serving → new.flights ≡ old.flights → new.backlogs ≡ old.backlogs
      → IsOrdered is_earlier old new line goes
  ordered_by is_earlier old new line goes order plan is day going plans asked turns desks serving flights backlogs = record {
    order = order;
    is_order = is;
    day_is = day;
    goes_is = going;
    plan = plan;
    plans = plans;
    asked_is = asked;
    turns_are = turns;
    desks_are = desks;
    serving_is = serving;
    flights_are = flights;
    backlogs_are = backlogs;
  }

  -- what the host sets by itself, where it was added and where it was not
  pub set_if : {A E : Type 0} (old new : Hallful D) (control : Control) (plan : Plan) (r : Result A E)
      → PlansRow (nat_lt (length (behind old.serving.grid old.serving.journal old.asked)) old.serving.cap)
      (behind old.serving.grid old.serving.journal old.asked) control plan
      → OnOk r ((new.asked ≡ old.asked ++ option_to_list plan.asked) × (new.turns ≡ old.turns ++ plan.turn ∷ []))
      → new.desks ≡ old.desks → new.manager ≡ old.manager → IsSameHost old new → OnOk r (IsSet old new control)
  set_if old new control plan (Ok x) plans more desks manager host = record {
    plan = plan;
    plans = plans;
    asked_is = more.0;
    turns_are = more.1;
    desks_are = desks;
    manager_is = manager;
    same_host = host;
  }
  set_if old new control plan (Err e) plans more desks manager host = tt

  pub unset_if : {A E : Type 0} (old : Hallful D) (asked : List Asked) (turns : List Turn) (r : Result A E)
      → OnErr r ((asked ≡ old.asked) × (turns ≡ old.turns)) → OnErr r ((record old { asked = asked; turns = turns }) ≡ old)
  unset_if old asked turns (Ok x) same = tt
  unset_if old asked turns (Err e) same = λ i. record old { asked = same.0 i; turns = same.1 i }

  -- lines are read on another day
  pub hall_later : (flights served : List Flown) (serving : Served D) (today later : ℕ) (desks : List Desk) (calls : List CallIndex)
      (asked : List Asked) → IsHall flights served serving today desks calls asked → IsCenturyDay later
      → IsHall flights served serving later desks calls asked
  hall_later flights served serving today later desks calls asked hall day = record {
    served_is = hall.served_is;
    grid_is = hall.grid_is;
    today_is = day;
    few = hall.few;
    calls_are = hall.calls_are;
    right = hall.right;
    room = hall.room;
  }

  -- ---- who is told again

  pub opened_none : (hall : Hallful D) (o : Option Asking) → o ≡ None → o ≡ again_asked hall.turns → IsOpened (again_asked hall.turns) hall hall
  opened_none hall o none is = subst (λ (x : Option Asking). IsOpened x hall hall) (sym none ∙ is) refl

  pub opened_some : (old new : Hallful D) (o : Option Asking) (asking : Asking) → o ≡ Some asking → o ≡ again_asked old.turns
      → new ≡ (record old {
        turns = [];
        backlogs = set old.backlogs asking.asker (Some (min asking.from (length old.serving.journal)));
      }) → IsOpened (again_asked old.turns) old new
  opened_some old new o asking some is same = subst (λ (x : Option Asking). IsOpened x old new) (sym some ∙ is) same

  pub piece_none : (hall : Hallful D) (session most : ℕ) (o : Option ℕ) (text : List ℕ) → o ≡ None → o ≡ backlog_of hall.backlogs session → text ≡ []
      → IsPiece hall hall session most text
  piece_none hall session most o text none is nothing =
      subst (λ (b : Option ℕ). IsPieceFrom b hall hall session most text) (sym none ∙ is) (nothing, refl)

  pub piece_some : (old new : Hallful D) (session most from upto lines : ℕ) (o : Option ℕ) (text : List ℕ) → o ≡ Some from
      → o ≡ backlog_of old.backlogs session → lines ≡ length old.serving.journal → upto ≡ piece_end from most lines
      → AreTold old.flights session (told_between old.serving.journal session from upto) text
      → new ≡ (record old { backlogs = set old.backlogs session (backlog_behind upto lines) }) → IsPiece old new session most text
  piece_some old new session most from upto lines o text some is count end told same =
      let here : upto ≡ piece_end from most (length old.serving.journal) = end ∙ ap (piece_end from most) count in
      let after : new ≡ (record old { backlogs = set old.backlogs session (backlog_behind upto (length old.serving.journal)) }) =
      same ∙ ap (λ (n : ℕ). record old { backlogs = set old.backlogs session (backlog_behind upto n) }) count in
      subst (λ (b : Option ℕ). IsPieceFrom b old new session most text) (sym some ∙ is)
      (subst (λ (n : ℕ). IsPieceUpTo from n old new session text) here (told, after))

  -- ---- who was told all

  caught_from : (old new : Hallful D) (session : ℕ) (text : List ℕ) (b : Option ℕ) → backlog_of old.backlogs session ≡ b
      → IsPieceFrom b old new session (length old.serving.journal) text → backlog_of new.backlogs session ≡ None
  caught_from old new session text None is piece = ap (λ (h : Hallful D). backlog_of h.backlogs session) piece.1 ∙ is
  caught_from old new session text (Some from) is piece =
      let lines : ℕ = length old.serving.journal in
      let over : nat_lt (piece_end from lines lines) lines ≡ false = whole_end from lines in
      let none : backlog_behind (piece_end from lines lines) lines ≡ None = ap (λ (t : Bool). if t then Some (piece_end from lines lines) else None) over in
      ap (λ (h : Hallful D). backlog_of h.backlogs session) piece.1
      ∙ ap (λ (o : Option ℕ). backlog_of (set old.backlogs session o) session) none ∙ no_backlog old.backlogs session

  pub caught_up : (old new : Hallful D) (session most : ℕ) (text : List ℕ) → most ≡ length old.serving.journal
      → IsPiece old new session most text → backlog_of new.backlogs session ≡ None
  caught_up old new session most text is piece =
      caught_from old new session text (backlog_of old.backlogs session) refl (subst (λ (n : ℕ). IsPiece old new session n text) is piece)
