-- A feed behind a line, and behind what is booked.
use Rattle.std.proofs.Common.{◌≡◌, ℕ, ◌≤◌, ◌==◌, Bool, List, [], length, ap, sym, ◌∙◌, subst, arith, append-nil, take, drop}
use Rattle.std.specs.Prelude.{Err, IfErr, IfSome, None, Ok, Option, Result}
use Rattle.airline_base.specs.Days.{IsCenturyDay}
use Rattle.desk_calls.specs.declared.call_index.CallIndex.{CallIndex}
use Rattle.desk_feed.specs.Progress.{start, IsProgress}
use Rattle.desk_feed.specs.declared.progress.Progress.{Progress}
use Rattle.desk_feed.proofs.Passing.{at_start}
use Rattle.desk_lines.specs.declared.desk.Desk.{Desk}
use Rattle.desk_stream.specs.Feeds.{read_behind, Feeding, IsFeed, IsHeard, IsOwnLine, IsStrangeLine, HasComeAsFar}
use Rattle.desk_stream.specs.Hearing.{lines_with, HearsBy, IsOwnStep, IsStrangeStep, IsWaiting}
use Rattle.desk_stream.specs.Leads.{lead_of}
use Rattle.desk_stream.specs.declared.hearing.FeedFault.{FeedFault}
use Rattle.desk_stream.specs.declared.hearing.FeedFault.TheVariants.{Memory, Strange}
use Rattle.desk_stream.specs.declared.lead.Lead.{Lead}
use Rattle.desk_stream.specs.Reading.{counted, step_of}
use Rattle.desk_stream.specs.declared.hearing.Pending.{Pending}
use Rattle.desk_stream.specs.declared.reading.Reading.{Reading as Read}
use Rattle.desk_stream.specs.declared.reading.Step.{Step}
use Rattle.desk_stream.proofs.Hears.{waiting_same}
use Rattle.seat_desk.specs.Loading.{IsGridOf}
use Rattle.seat_journal.specs.declared.entry.Entry.{Entry}
use Rattle.seat_nesting.specs.Nesting.{Ladders}
use Rattle.seat_serving.specs.Answering.{behind, AreRight}
use Rattle.seat_serving.specs.Served.{Served}
use Rattle.seat_serving.specs.declared.asked.Asked.{Asked}
use Rattle.ssim_flights.specs.declared.flight.Flight.{Flight as Flown}

-- what is asked for is nothing
none_right : (grid : Ladders) (asked : List Asked) → asked ≡ [] → AreRight grid asked
none_right grid asked none = subst (AreRight grid) (sym none) (record { each = λ k d lt. absurd (omega (arith, lt)) })

none_behind : (grid : Ladders) (journal : List Entry) (asked : List Asked) → asked ≡ [] → behind grid journal asked ≡ journal
none_behind grid journal asked none = ap (behind grid journal) none ∙ append-nil journal

module _ {D : Type 0} where
  -- how far it has come where nothing is asked for
  pub settled : (serving : Served D) (pending : Pending) → pending.asked.items ≡ [] → IsProgress serving.journal pending.progress
      → length serving.journal ≤ serving.cap → IsWaiting serving pending
  settled serving pending none is within = record {
    come = record {
      is_progress = subst (λ (l : List Entry). IsProgress l pending.progress) (sym whole) is;
      live = λ over. omega (arith, over, is.within, ap length whole);
      ahead = λ under. none;
    };
    right = none_right serving.grid pending.asked.items none;
    room = omega (arith, within, ap length none);
  }
    where
      whole : behind serving.grid serving.journal pending.asked.items ≡ serving.journal
      whole = none_behind serving.grid serving.journal pending.asked.items none

  pub feed_over : (flights served : List Flown) (serving : Served D) (reading : Read) (desks : List Desk) (calls : List CallIndex)
      (pending : Pending) → served ≡ flights → IsGridOf flights serving.grid → reading.today ≡ None → length desks ≡ 9
      → length calls ≡ 9 → pending.asked.items ≡ [] → IsProgress serving.journal pending.progress
      → length serving.journal ≤ serving.cap → IsFeed flights served serving reading desks calls pending
  feed_over flights served serving reading desks calls pending same grid no_day count calls_count none is within = record {
    served_is = same;
    grid_is = grid;
    today_is = subst (λ (o : Option ℕ). IfSome o IsCenturyDay) (sym no_day) tt;
    desks_are = count;
    calls_are = calls_count;
    waiting = settled serving pending none is within;
  }

  -- ---- behind what is booked

  pub answered : (flights served : List Flown) (serving now : Served D) (reading : Read) (desks : List Desk) (calls : List CallIndex)
      (old new : Pending) → IsFeed flights served serving reading desks calls old → now.grid ≡ serving.grid
      → now.journal ≡ behind serving.grid serving.journal old.asked.items → length now.journal ≤ now.cap
      → new.asked.items ≡ [] → new.progress ≡ old.progress → IsFeed flights served now reading desks calls new
  answered flights served serving now reading desks calls old new feed grid booked within none stays = record {
    served_is = feed.served_is;
    grid_is = subst (IsGridOf flights) (sym grid) feed.grid_is;
    today_is = feed.today_is;
    desks_are = feed.desks_are;
    calls_are = feed.calls_are;
    waiting = settled now new none
        (subst (λ (p : Progress). IsProgress now.journal p) (sym stays)
        (subst (λ (l : List Entry). IsProgress l old.progress) (sym booked) feed.waiting.come.is_progress)) within;
  }

  pub come_as_far : (old new : Feeding D) → new.serving.grid ≡ old.serving.grid
      → new.serving.journal ≡ behind old.serving.grid old.serving.journal old.pending.asked.items → new.pending.asked.items ≡ []
      → new.pending.progress ≡ old.pending.progress → HasComeAsFar old new
  come_as_far old new grid booked none stays = record {
    come = ap (λ (p : Progress). take p.lines (lines_with new.serving new.pending)) stays
        ∙ ap (take old.pending.progress.lines) same;
    ahead = ap (λ (p : Progress). drop p.lines (lines_with new.serving new.pending)) stays
        ∙ ap (drop old.pending.progress.lines) same;
  }
    where
      same : lines_with new.serving new.pending ≡ lines_with old.serving old.pending
      same = none_behind new.serving.grid new.serving.journal new.pending.asked.items none ∙ booked

  pub begun_anew : (flights served : List Flown) (serving now : Served D) (reading : Read) (desks : List Desk) (calls : List CallIndex)
      (old new : Pending) → IsFeed flights served serving reading desks calls old → now.grid ≡ serving.grid
      → length now.journal ≤ now.cap → new.asked.items ≡ [] → new.progress ≡ start → IsFeed flights served now reading desks calls new
  begun_anew flights served serving now reading desks calls old new feed grid within none anew = record {
    served_is = feed.served_is;
    grid_is = subst (IsGridOf flights) (sym grid) feed.grid_is;
    today_is = feed.today_is;
    desks_are = feed.desks_are;
    calls_are = feed.calls_are;
    waiting = settled now new none (subst (λ (p : Progress). IsProgress now.journal p) (sym anew) (at_start now.journal)) within;
  }

  -- ---- behind a line

  pub heard_by : (old new : Feeding D) (line : List ℕ) (at : Read) (lead : Lead) (came : Read × Step) (own : Bool) → at ≡ counted old.reading
      → lead ≡ lead_of line → came ≡ step_of old.epoch at lead → new.reading ≡ came.0 → own ≡ (came.0.epoch == old.epoch)
      → HearsBy came.1 old.flights old.serving own old.desks new.desks old.pending new.pending line → IsHeard old new line
  heard_by old new line at lead came own counts leads is reads owns hears = record {
    step = came.1;
    step_is = ap (λ (r : Read). (r, came.1)) reads ∙ is ∙ ap (λ (r : Read). step_of old.epoch r lead) counts ∙ ap (step_of old.epoch (counted old.reading)) leads;
    hears = subst (λ (b : Bool). HearsBy came.1 old.flights old.serving b old.desks new.desks old.pending new.pending line)
        (owns ∙ ap (λ (r : Read). r.epoch == old.epoch) (sym reads)) hears;
  }

  -- whatever comes of it
  pub read_to : (old : Feeding D) (line : List ℕ) (at : Read) (lead : Lead) (came : Read × Step) → at ≡ counted old.reading
      → lead ≡ lead_of line → came ≡ step_of old.epoch at lead → came.0 ≡ read_behind old line
  read_to old line at lead came counts leads is =
      ap (λ (p : Read × Step). p.0) (is ∙ ap (λ (r : Read). step_of old.epoch r lead) counts ∙ ap (step_of old.epoch (counted old.reading)) leads)

  pub strange_line : (old : Feeding D) (line : List ℕ) (at : Read) (lead : Lead) (came : Read × Step) (own : Bool) → at ≡ counted old.reading
      → lead ≡ lead_of line → came ≡ step_of old.epoch at lead → own ≡ (came.0.epoch == old.epoch)
      → IsStrangeStep came.1 old.flights old.serving own old.desks old.pending line → IsStrangeLine old line
  strange_line old line at lead came own counts leads is owns strange = record {
    reading = came.0;
    step = came.1;
    step_is = is ∙ ap (λ (r : Read). step_of old.epoch r lead) counts ∙ ap (step_of old.epoch (counted old.reading)) leads;
    strange = subst (λ (b : Bool). IsStrangeStep came.1 old.flights old.serving b old.desks old.pending line) owns strange;
  }

  -- where it was refused for that
  pub strange_if : {A : Type 0} (old : Feeding D) (line : List ℕ) (at : Read) (lead : Lead) (came : Read × Step) (own : Bool) (r : Result A FeedFault)
      → at ≡ counted old.reading → lead ≡ lead_of line → came ≡ step_of old.epoch at lead → own ≡ (came.0.epoch == old.epoch)
      → IfErr r (λ f. f ≡ Strange → IsStrangeStep came.1 old.flights old.serving own old.desks old.pending line)
      → IfErr r (λ f. f ≡ Strange → IsStrangeLine old line)
  strange_if old line at lead came own (Ok x) counts leads is owns strange = tt
  strange_if old line at lead came own (Err e) counts leads is owns strange = λ f_is.
      strange_line old line at lead came own counts leads is owns (strange f_is)

  own_line : (old : Feeding D) (line : List ℕ) (at : Read) (lead : Lead) (came : Read × Step) (own : Bool) → at ≡ counted old.reading
      → lead ≡ lead_of line → came ≡ step_of old.epoch at lead → own ≡ (came.0.epoch == old.epoch)
      → IsOwnStep came.1 old.flights old.serving own old.desks old.pending line → IsOwnLine old line
  own_line old line at lead came own counts leads is owns mine = record {
    reading = came.0;
    step = came.1;
    step_is = is ∙ ap (λ (r : Read). step_of old.epoch r lead) counts ∙ ap (step_of old.epoch (counted old.reading)) leads;
    own = subst (λ (b : Bool). IsOwnStep came.1 old.flights old.serving b old.desks old.pending line) owns mine;
  }

  -- where memory is wanting for it
  pub own_if : {A : Type 0} (old : Feeding D) (line : List ℕ) (at : Read) (lead : Lead) (came : Read × Step) (own : Bool) (r : Result A FeedFault)
      → at ≡ counted old.reading → lead ≡ lead_of line → came ≡ step_of old.epoch at lead → own ≡ (came.0.epoch == old.epoch)
      → IfErr r (λ f. f ≡ Memory → IsOwnStep came.1 old.flights old.serving own old.desks old.pending line)
      → IfErr r (λ f. f ≡ Memory → IsOwnLine old line)
  own_if old line at lead came own (Ok x) counts leads is owns mine = tt
  own_if old line at lead came own (Err e) counts leads is owns mine = λ f_is.
      own_line old line at lead came own counts leads is owns (mine f_is)

  -- the feed stays one, whatever a line comes to
  pub feed_on : (flights served : List Flown) (serving : Served D) (reading later : Read) (desks now : List Desk) (calls : List CallIndex)
      (old new : Pending) → IsFeed flights served serving reading desks calls old → IfSome later.today IsCenturyDay
      → length now ≡ 9 → IsWaiting serving new → IsFeed flights served serving later now calls new
  feed_on flights served serving reading later desks now calls old new feed today count waiting = record {
    served_is = feed.served_is;
    grid_is = feed.grid_is;
    today_is = today;
    desks_are = count;
    calls_are = feed.calls_are;
    waiting = waiting;
  }

  pub feed_same : (flights served : List Flown) (serving : Served D) (reading : Read) (desks : List Desk) (calls : List CallIndex)
      (old new : Pending) → IsFeed flights served serving reading desks calls old → new.asked.items ≡ old.asked.items
      → new.progress ≡ old.progress → IsFeed flights served serving reading desks calls new
  feed_same flights served serving reading desks calls old new feed same stays =
      feed_on flights served serving reading reading desks desks calls old new feed feed.today_is feed.desks_are
      (waiting_same serving old new feed.waiting same stays)
