-- What comes of a line of the manager or of a session in a feed.
use Rattle.std.proofs.Common.{◌≡◌, ℕ, ◌≤◌, ◌==◌, Bool, true, false, List, [], ◌∷◌, ◌++◌, length, take, drop, ap, sym, ◌∙◌, subst, arith}
use Rattle.std.specs.Prelude.{Err, Ok, OnOk, Result, Some, is_err, option_to_list, set, slice_get}
use Rattle.std.proofs.lemmas.Bool.Decides.{nat_tests}
use Rattle.std.proofs.Math.Seq.{take-append_seam}
use Rattle.desk_feed.specs.declared.progress.Progress.{Progress}
use Rattle.desk_hall.proofs.Halls.{right_more, room_more}
use Rattle.desk_hall.specs.Orders.{IsOrder}
use Rattle.desk_hall.specs.declared.orders.Order.{Order}
use Rattle.desk_hall.specs.declared.turn.Turn.{Turn}
use Rattle.desk_lines.specs.Lines.{next_number, Hears}
use Rattle.desk_lines.specs.declared.desk.Desk.{Desk}
use Rattle.desk_lines.specs.declared.desk.Meaning.{Meaning}
use Rattle.desk_stream.specs.Hearing.{ahead_of, called_by, come_to, CallsBy, ComesBy, ComesTo, HasHeardAt, IsCameTo, IsNoStranger, IsOwnCall, IsOwnOf, IsPlanned, IsRightPlan, IsSamePending, IsStrangeBy, IsStrangeTo, IsWaiting}
use Rattle.desk_stream.specs.Meaning.{meant_by, ordered, IsMeant, IsRightMeant}
use Rattle.desk_stream.specs.Planning.{IsComeTo, Passes, Plans}
use Rattle.desk_stream.specs.declared.hearing.FeedFault.TheVariants.{Memory, Strange}
use Rattle.desk_stream.specs.declared.hearing.Pending.{Pending}
use Rattle.desk_stream.specs.declared.meant.Meant.{Meant}
use Rattle.desk_stream.specs.declared.meant.Meant.TheVariants as meants
use Rattle.desk_stream.specs.declared.planning.Called.{Called}
use Rattle.desk_stream.specs.declared.planning.Plan.{Plan}
use Rattle.desk_stream.specs.declared.telling.FeedTurn.{FeedTurn}
use Rattle.desk_stream.specs.declared.telling.FeedTurn.TheVariants as turns
use Rattle.desk_stream.specs.declared.wanted.Wanted.{Wanted}
use Rattle.desk_stream.proofs.Plans.{goes, planned_own, Goes}
use Rattle.seat_serving.specs.Answering.{AreRight}
use Rattle.seat_serving.specs.Served.{Served}
use Rattle.seat_serving.specs.declared.asked.Asked.{Asked}
use Rattle.ssim_flights.specs.declared.flight.Flight.{Flight as Flown}

-- what was added is cut off
pub cut_turn : (old mid new : List FeedTurn) (turn : FeedTurn) → mid ≡ old ++ turn ∷ [] → new ≡ take (length old) mid → new ≡ old
cut_turn old mid new turn more cut = cut ∙ ap (take (length old)) more ∙ take-append_seam old (turn ∷ [])

-- ---- one answer is not the other

pub not_strange : Memory ≡ Strange → ⊥
not_strange h = cc h

pub not_memory : Strange ≡ Memory → ⊥
not_memory h = cc h

pub not_true : false ≡ true → ⊥
not_true h = cc h

pub when_ok : {A E : Type 0} → (r : Result A E) (P : Type 0) → is_err r ≡ false → OnOk r P → P
when_ok (Ok x) P is p = p
when_ok (Err e) P is p = absurd (cc is)

-- ---- what a line means

pub of_session : (flights : List Flown) (session : ℕ) (old new : Desk) (line : List ℕ) (meaning : Meaning) (meant : Meant)
    → (session ≡ 0 → ⊥) → Hears old new line meaning → new.lines ≡ next_number old.lines → new.today ≡ old.today
    → meant ≡ meant_by session new meaning → IsMeant flights session old new line meant
of_session flights session old new line meaning meant some hears counts same is =
    let other : (session == 0) ≡ false = grind (arith, nat_tests) in
    rw other (record { meaning = meaning; has_heard = record { hears = hears; counted = counts; same_day = same }; meant_is = is })

pub of_manager : (flights served : List Flown) (session : ℕ) (old new : Desk) (line : List ℕ) (order : Order) (meant : Meant)
    → session ≡ 0 → served ≡ flights → IsOrder false served old new line order → meant ≡ ordered new order
    → IsMeant flights session old new line meant
of_manager flights served session old new line order meant none same orders is =
    let here : (session == 0) ≡ true = grind (arith, nat_tests) in
    rw here (record {
      order = order;
      is_order = subst (λ (fs : List Flown). IsOrder false fs old new line order) same orders;
      meant_is = is;
    })

pub right_manager : (flights served : List Flown) (session : ℕ) (meant : Meant) → session ≡ 0 → served ≡ flights
    → IsRightMeant served 0 meant → IsRightMeant flights session meant
right_manager flights served session meant none same right =
    subst (λ (n : ℕ). IsRightMeant flights n meant) (sym none) (subst (λ (fs : List Flown). IsRightMeant fs 0 meant) same right)

pub heard_at : (flights : List Flown) (old new : List Desk) (session today : ℕ) (line : List ℕ) (was desk : Desk) (meant : Meant)
    → slice_get old session ≡ Some was → IsMeant flights session (record was { today = today }) desk line meant
    → new ≡ set old session desk → HasHeardAt flights old new session today line desk meant
heard_at flights old new session today line was desk meant stood is are =
    record { was = was; stood = stood; is_meant = is; desks_are = are }

module _ {D : Type 0} (serving : Served D) where
  pub waiting_same : (old new : Pending) → IsWaiting serving old → new.asked.items ≡ old.asked.items → new.progress ≡ old.progress
      → IsWaiting serving new
  waiting_same old new is same stays = record {
    come = subst (λ (p : Progress). IsComeTo serving.grid serving.journal new.asked.items p) (sym stays)
        (subst (λ (l : List Asked). IsComeTo serving.grid serving.journal l old.progress) (sym same) is.come);
    right = subst (AreRight serving.grid) (sym same) is.right;
    room = omega (arith, is.room, ap length same);
  }

  pub waiting_still : (old new : Pending) → IsWaiting serving old → IsSamePending old new → IsWaiting serving new
  waiting_still old new is same = waiting_same old new is same.asked_is same.progress_is

module _ {D : Type 0} (flights : List Flown) (serving : Served D) where
  -- ---- a numbered line

  module _ (old new : Pending) (c : Called) (desk : Desk) (plan : Plan) where
    gone : IsWaiting serving old → c.session ≤ 8
        → Plans flights serving.cap c desk (come_to serving old) (ahead_of serving old) plan
        → new.asked.items ≡ old.asked.items ++ option_to_list plan.asked → Passes plan.passes old.progress new.progress c.session
        → serving.cap ≤ 999999
        → Goes flights serving.grid serving.cap serving.journal old.asked.items c old.progress new.asked.items new.progress
    gone waiting high plans more passes small =
        goes flights serving.grid serving.cap serving.journal old.asked.items c old.progress desk plan new.asked.items new.progress
        waiting.come high plans more passes small waiting.room

    pub planned : IsWaiting serving old → c.session ≤ 8
        → Plans flights serving.cap c desk (come_to serving old) (ahead_of serving old) plan → IsRightPlan serving old plan
        → new.asked.items ≡ old.asked.items ++ option_to_list plan.asked
        → new.turns.items ≡ old.turns.items ++ turns.Desk plan.turn ∷ []
        → Passes plan.passes old.progress new.progress c.session → serving.cap ≤ 999999
        → IsPlanned flights serving old new desk c
    planned waiting high plans right more turn passes small = record {
      plan = plan;
      plans = plans;
      right = right;
      asked_is = more;
      turns_are = turn;
      passes = passes;
      lives = (gone waiting high plans more passes small).lives;
    }

    waiting_on : IsWaiting serving old → c.session ≤ 8
        → Plans flights serving.cap c desk (come_to serving old) (ahead_of serving old) plan
        → new.asked.items ≡ old.asked.items ++ option_to_list plan.asked
        → Passes plan.passes old.progress new.progress c.session → serving.cap ≤ 999999
        → IsRightPlan serving old plan → IsWaiting serving new
    waiting_on waiting high plans more passes small right = record {
      come = (gone waiting high plans more passes small).come;
      right = right_more serving.grid old.asked.items new.asked.items plan.asked waiting.right right.right more;
      room = room_more (length serving.journal) serving.cap old.asked.items new.asked.items plan.asked waiting.room right.room more;
    }

  pub waiting_of : (old new : Pending) (desk : Desk) (c : Called) → IsWaiting serving old → c.session ≤ 8 → serving.cap ≤ 999999
      → IsPlanned flights serving old new desk c → IsWaiting serving new
  waiting_of old new desk c waiting high small is =
      waiting_on old new c desk is.plan waiting high is.plans is.asked_is is.passes small is.right

  -- ---- a line

  pub came_by : (own : Bool) (desks now : List Desk) (old new : Pending) (session today : ℕ) (line : List ℕ) (desk : Desk) (meant : Meant)
      → HasHeardAt flights desks now session today line desk meant → ComesBy flights serving own old new session desk meant
      → ComesTo flights serving own desks now old new session today line
  came_by own desks now old new session today line desk meant heard comes =
      record { desk = desk; meant = meant; has_heard = heard; comes = comes }

  pub strange_by : (own : Bool) (desks now : List Desk) (pending : Pending) (session today : ℕ) (line : List ℕ) (desk : Desk) (meant : Meant)
      → HasHeardAt flights desks now session today line desk meant → IsStrangeBy flights serving own pending session meant
      → IsStrangeTo flights serving own desks pending session today line
  strange_by own desks now pending session today line desk meant heard strange =
      record { now = now; desk = desk; meant = meant; has_heard = heard; strange = strange }

  -- ---- memory is wanting for a line that is no stranger's

  pub own_planned : (pending : Pending) (c : Called) (desk : Desk) (plan : Plan)
      → Plans flights serving.cap c desk (come_to serving pending) (ahead_of serving pending) plan → IsOwnCall flights serving pending c
  own_planned pending c desk plan plans = record {
    none = planned_own flights serving.cap c desk (come_to serving pending) (ahead_of serving pending) plan plans;
  }

  pub own_said : (own : Bool) (pending : Pending) (session : ℕ) (turn : Turn)
      → IsNoStranger flights serving own pending session (meants.Said turn)
  own_said own pending session turn = record { none = λ strange. strange }

  pub own_called : (own : Bool) (pending : Pending) (session number : ℕ) (wanted : Wanted)
      → (own ≡ true → IsOwnCall flights serving pending (called_by session number wanted))
      → IsNoStranger flights serving own pending session (meants.Called number wanted)
  own_called own pending session number wanted mine = record { none = λ strange. (mine strange.0).none strange.1 }

  pub own_to : (own : Bool) (desks now : List Desk) (pending : Pending) (session today : ℕ) (line : List ℕ) (desk : Desk) (meant : Meant)
      → HasHeardAt flights desks now session today line desk meant → IsNoStranger flights serving own pending session meant
      → IsOwnOf flights serving own desks pending session today line
  own_to own desks now pending session today line desk meant heard none = record {
    of_session = λ some. record { now = now; desk = desk; meant = meant; has_heard = heard; no_stranger = none };
  }

  pub own_row : (own : Bool) (desks : List Desk) (pending : Pending) (session today : ℕ) (line : List ℕ) → session ≡ 0
      → IsOwnOf flights serving own desks pending session today line
  own_row own desks pending session today line is = record { of_session = λ some. absurd (some is) }

  -- what stands behind a lead is the line
  pub comes_behind : (own : Bool) (desks now : List Desk) (old new : Pending) (session today : ℕ) (line rest : List ℕ) → rest ≡ drop 2 line
      → ComesTo flights serving own desks now old new session today rest
      → ComesTo flights serving own desks now old new session today (drop 2 line)
  comes_behind own desks now old new session today line rest is comes =
      subst (λ (l : List ℕ). ComesTo flights serving own desks now old new session today l) is comes

  pub strange_behind : (own : Bool) (desks : List Desk) (pending : Pending) (session today : ℕ) (line rest : List ℕ) → rest ≡ drop 2 line
      → IsStrangeTo flights serving own desks pending session today rest
      → IsStrangeTo flights serving own desks pending session today (drop 2 line)
  strange_behind own desks pending session today line rest is strange =
      subst (λ (l : List ℕ). IsStrangeTo flights serving own desks pending session today l) is strange

  pub own_behind : (own : Bool) (desks : List Desk) (pending : Pending) (session today : ℕ) (line rest : List ℕ) → rest ≡ drop 2 line
      → IsOwnOf flights serving own desks pending session today rest
      → IsOwnOf flights serving own desks pending session today (drop 2 line)
  own_behind own desks pending session today line rest is mine =
      subst (λ (l : List ℕ). IsOwnOf flights serving own desks pending session today l) is mine

  -- ---- this journal's, or another's
  pub calls_own : (own : Bool) (old new : Pending) (desk : Desk) (c : Called) → own ≡ true → IsPlanned flights serving old new desk c
      → CallsBy own flights serving old new desk c
  calls_own own old new desk c is planned = subst (λ (b : Bool). CallsBy b flights serving old new desk c) (sym is) planned

  pub calls_foreign : (own : Bool) (old new : Pending) (desk : Desk) (c : Called) → own ≡ false
      → IsCameTo old new (turns.Foreign c.session c.number) → CallsBy own flights serving old new desk c
  calls_foreign own old new desk c is came = subst (λ (b : Bool). CallsBy b flights serving old new desk c) (sym is) came
