-- A feed over a host, and the end of its journal.
use Rattle.std.proofs.Common.{◌≡◌, ℕ, Bool, false, List, [], length, take, drop, refl, ap, sym, ◌∙◌, subst, append-nil, take-append-drop}
use Rattle.std.specs.Option.{is_none}
use Rattle.std.specs.Prelude.{All, IfSome, IsTrue, Option, Some, None}
use Rattle.airline_base.specs.Noting.{noted}
use Rattle.desk_feed.specs.Feeding.{LivesThrough}
use Rattle.desk_feed.specs.Progress.{IsProgress}
use Rattle.desk_feed.specs.declared.progress.Progress.{Progress}
use Rattle.desk_lines.specs.declared.desk.Desk.{Desk}
use Rattle.desk_serving.specs.Going.{GoesOn}
use Rattle.desk_serving.proofs.Ended.{left_open}
use Rattle.desk_stream.specs.Feeds.{Feeding, IsBegun}
use Rattle.desk_stream.specs.Leads.{first_day, lead_of}
use Rattle.desk_stream.specs.Hearing.{ahead_of, come_to}
use Rattle.desk_stream.specs.Laws.{IsVeryCall}
use Rattle.desk_stream.specs.Wanting.{asking_of}
use Rattle.desk_serving.specs.Opening.{day_or, IsFeedDay, NeedsDay}
use Rattle.desk_serving.specs.Serving.{is_of_journal, IsFedOut, IsFedTo, IsFedUnsealed, IsFeedOver, IsFreshAt, IsLivedTo, IsOfFeed, IsOfOpening, IsStrangeFed}
use Rattle.desk_serving.specs.Streaming.{later_day, Breaks, IsStreamed, Lived}
use Rattle.desk_serving.specs.declared.fault.FedFault.{FedFault}
use Rattle.desk_serving.specs.declared.fault.FedFault.TheVariants.{Behind, Broken, End, Seal}
use Rattle.desk_serving.specs.declared.fault.StreamFault.{StreamFault}
use Rattle.desk_serving.specs.declared.fault.StreamFault.TheVariants as streams
use Rattle.desk_talk.specs.Ending.{IsLeftOpen}
use Rattle.seat_desk.specs.Desk.{HasFailed}
use Rattle.seat_desk.specs.declared.fault.DeskFault.{DeskFault}
use Rattle.seat_desk.specs.declared.fault.DeskFault.TheVariants.{Device}
use Rattle.seat_disk.specs.Growing.{KeepsFront}
use Rattle.seat_journal.specs.declared.entry.Entry.{Entry}
use Rattle.seat_nesting.specs.Nesting.{Ladders}
use Rattle.seat_recovery.specs.OpenText.{open_text}
use Rattle.seat_restoring.specs.Dating.{IsDated, IsNotEarlier, IsSince}
use Rattle.seat_seal.specs.Eras.{day_of_era}
use Rattle.seat_seal.specs.Known.{IsKnown, era_known}
use Rattle.seat_seal.specs.declared.beside.Basis.{Basis}
use Rattle.seat_seal.specs.declared.beside.Beside.{Beside}
use Rattle.seat_seal.specs.declared.era.Era.{Era}
use Rattle.seat_seal.specs.declared.run.Run.{Run}
use Rattle.seat_seal.specs.declared.seal.Sealed.{Sealed as Belonging}
use Rattle.seat_serving.specs.Answering.{behind}
use Rattle.seat_serving.specs.Served.{Served}
use Rattle.seat_serving.specs.declared.serving.ServeFault.{ServeFault}
use Rattle.seat_serving.specs.declared.serving.ServeFault.TheVariants as ends
use Rattle.ssim_flights.specs.declared.flight.Flight.{Flight as Flown}

-- any day is since none
pub since_none : (known first : Option ℕ) → known ≡ None → IfSome first (IsSince known)
since_none known None is = tt
since_none known (Some day) is = subst (λ (o : Option ℕ). IsSince o day) (sym is) tt

-- whether the seal knows a day
pub needs_day : (beside : Beside) (file : List ℕ) (known : Option Belonging) (era : Era) (day : Option ℕ) (needs : Bool) → IsKnown beside file known
    → era ≡ era_known known → day ≡ day_of_era era → needs ≡ is_none day → NeedsDay beside file needs
needs_day beside file known era day needs is_known is day_is needs_is = record {
  era = era;
  is_era = record { known = known; is_known = is_known; era_is = is };
  needs_is = needs_is ∙ ap (λ (o : Option ℕ). is_none o) day_is;
}

-- the day that the seal knows, or else the feed's first
pub feed_day_is : (beside : Beside) (file line : List ℕ) (known : Option Belonging) (era : Era) (day first result : Option ℕ)
    → IsKnown beside file known → era ≡ era_known known → day ≡ day_of_era era → first ≡ first_day (lead_of line)
    → result ≡ day_or day first → IsFeedDay beside file line result
feed_day_is beside file line known era day first result is_known is day_is first_is result_is = record {
  era = era;
  is_era = record { known = known; is_known = is_known; era_is = is };
  day_is = result_is ∙ ap (λ (o : Option ℕ). day_or o first) day_is ∙ ap (λ (o : Option ℕ). day_or (day_of_era era) o) first_is;
}

some_since : (beside : Beside) (file : List ℕ) (known : Option Belonging) (era : Era) (result : Option ℕ) → IsKnown beside file known
    → era ≡ era_known known → IfSome result (IsSince (day_of_era era)) → IfSome result (IsNotEarlier beside file)
some_since beside file known era None is_known is since = tt
some_since beside file known era (Some day) is_known is since = record {
  era = era;
  is_era = record { known = known; is_known = is_known; era_is = is };
  since = since;
}

-- it is no earlier than the day that the seal knows
pub feed_day_since : (beside : Beside) (file : List ℕ) (known : Option Belonging) (era : Era) (day result : Option ℕ) → IsKnown beside file known
    → era ≡ era_known known → day ≡ day_of_era era → IfSome result (IsSince day) → IfSome result (IsNotEarlier beside file)
feed_day_since beside file known era day result is_known is day_is since =
    some_since beside file known era result is_known is (subst (λ (o : Option ℕ). IfSome result (IsSince o)) day_is since)

-- ---- kinds of faults

pub no_journal_yet : (f : FedFault) (m n : ℕ) → IsOfOpening f → IsTrue (is_of_journal f) → m ≡ n
no_journal_yet Behind m n is of = absurd (cc of)
no_journal_yet (Broken streams.Input) m n is of = absurd is
no_journal_yet (Broken streams.Output) m n is of = absurd is
no_journal_yet (Broken streams.Memory) m n is of = absurd (cc of)
no_journal_yet (Broken (streams.Strange a b)) m n is of = absurd is
no_journal_yet (Broken streams.Journal) m n is of = absurd is
no_journal_yet (Broken (streams.Dating fault)) m n is of = absurd is
no_journal_yet (End fault) m n is of = absurd is
no_journal_yet (Seal fault) m n is of = absurd is

pub of_feed : (f : FedFault) → IsOfOpening f → IsOfFeed f
of_feed Behind is = tt
of_feed (Broken fault) is = tt
of_feed (End fault) is = tt
of_feed (Seal fault) is = absurd is

no_journal : (b : StreamFault) → is_of_journal (Broken b) ≡ false → b ≡ streams.Journal → ⊥
no_journal streams.Journal is same = absurd (cc is)
no_journal streams.Input is same = absurd (cc same)
no_journal streams.Output is same = absurd (cc same)
no_journal streams.Memory is same = absurd (cc same)
no_journal (streams.Strange a b) is same = absurd (cc same)
no_journal (streams.Dating fault) is same = absurd (cc same)

a_journal : (b : StreamFault) → IsTrue (is_of_journal (Broken b)) → b ≡ streams.Journal
a_journal streams.Journal is = refl
a_journal streams.Input is = absurd (cc is)
a_journal streams.Output is = absurd (cc is)
a_journal streams.Memory is = absurd (cc is)
a_journal (streams.Strange a b) is = absurd (cc is)
a_journal (streams.Dating fault) is = absurd (cc is)

no_device : (f : ServeFault) → is_of_journal (End f) ≡ false → f ≡ ends.Memory
no_device ends.Memory is = refl
no_device ends.Device is = absurd (cc is)

a_device : (f : ServeFault) → IsTrue (is_of_journal (End f)) → f ≡ ends.Device
a_device ends.Memory is = absurd (cc is)
a_device ends.Device is = refl

pub no_opening_input : (f : FedFault) (m n : ℕ) → IsOfOpening f → f ≡ Broken streams.Input → m ≡ n
no_opening_input f m n of is = absurd (subst IsOfOpening is of)

pub no_opening_output : (f : FedFault) (m n : ℕ) → IsOfOpening f → f ≡ Broken streams.Output → m ≡ n
no_opening_output f m n of is = absurd (subst IsOfOpening is of)

pub no_opening_date : {K : Type 0} (failures : K → ℕ) (before after : K) (f : FedFault) (e : DeskFault) → IsOfOpening f → f ≡ Broken (streams.Dating e)
    → HasFailed failures before after
no_opening_date failures before after f e of is = absurd (subst IsOfOpening is of)

pub no_seal_failed : {K : Type 0} (failures : K → ℕ) (before after : K) (f : FedFault) → IsOfFeed f → f ≡ Seal Device
    → HasFailed failures before after
no_seal_failed failures before after f of is = absurd (subst IsOfFeed is of)

module _ {D : Type 0} where
  pub no_seal_over : (flights : List Flown) (serving : Served D) (epoch count today : ℕ) (basis : Basis) (runs : List Run)
      (input a b seen : Option (List ℕ)) (leaves : List ℕ → Type 0) (unsynced : ℕ) (seals : List ℕ → Type 0) (f : FedFault) → IsOfFeed f
      → (e : DeskFault) → f ≡ Seal e → IsFedUnsealed flights serving epoch count today basis runs e input a b seen leaves unsynced seals
  no_seal_over flights serving epoch count today basis runs input a b seen leaves unsynced seals f of e is = absurd (subst IsOfFeed is of)

  pub no_stranger : (flights : List Flown) (serving : Served D) (epoch count : ℕ) (f : FedFault) (seen : Option (List ℕ)) (leaves : List ℕ → Type 0)
      → IsOfOpening f → (line number : ℕ) → f ≡ Broken (streams.Strange line number)
      → IsStrangeFed flights serving epoch count line number seen leaves
  no_stranger flights serving epoch count f seen leaves of line number is = absurd (subst IsOfOpening is of)

  pub feed_is_over : (flights : List Flown) (serving s : Served D) (epoch count : ℕ) (progress : Progress) (journal : List Entry) (desks : List Desk)
      (feed : Feeding D) → s ≡ serving
      → (feed.flights ≡ flights) × (feed.serving ≡ s) × (feed.epoch ≡ epoch) × (feed.desks ≡ desks) → feed.pending.progress ≡ progress
      → (feed.pending.asked.items ≡ []) × (feed.pending.turns.items ≡ []) → IsBegun epoch feed.reading → progress.lines ≡ count
      → journal ≡ s.journal → IsProgress journal progress → length desks ≡ 9 → All (IsFreshAt epoch) desks
      → IsFeedOver flights serving epoch count feed
  feed_is_over flights serving s epoch count progress journal desks feed same parts come none begun lines lines_are is nine fresh = record {
    flights_are = parts.0;
    serving_is = parts.1 ∙ same;
    epoch_is = parts.2;
    behind_is = ap (λ (p : Progress). p.lines) come ∙ lines;
    is_progress = subst (λ (p : Progress). IsProgress serving.journal p) (sym come)
        (subst (λ (l : List Entry). IsProgress l progress) (lines_are ∙ ap (λ (x : Served D). x.journal) same) is);
    none_asked = none.0;
    none_told = none.1;
    begun = begun;
    nine = ap (λ (l : List Desk). length l) parts.3 ∙ nine;
    fresh = subst (λ (l : List Desk). All (IsFreshAt epoch) l) (sym parts.3) fresh;
  }

  pub none_asked_yet : (flights : List Flown) (serving : Served D) (epoch count : ℕ) (feed : Feeding D)
      → IsFeedOver flights serving epoch count feed → feed.pending.asked.items ≡ []
  none_asked_yet flights serving epoch count feed over = over.none_asked

  -- the whole feed
  pub fed_to : (flights : List Flown) (serving : Served D) (epoch count today from day : ℕ) (era : Era) (old new : Feeding D) (s : Served D)
      (input a b : Option (List ℕ)) (journal : List Entry) → IsFeedOver flights serving epoch count old → IfSome input (IsStreamed old new a b)
      → s ≡ new.serving → journal ≡ s.journal → from ≡ today → day ≡ later_day from new.reading.today → IsDated day era
      → IfSome input (IsFedTo flights serving epoch count today era a b journal)
  fed_to flights serving epoch count today from day era old new s None a b journal over streamed same is on later dated = tt
  fed_to flights serving epoch count today from day era old new s (Some xs) a b journal over streamed same is on later dated = record {
    old = old;
    new = new;
    over = over;
    streamed = streamed;
    journal_is = sym (is ∙ ap (λ (x : Served D). x.journal) same);
    dated = subst (λ (d : ℕ). IsDated d era) (later ∙ ap (λ (d : ℕ). later_day d new.reading.today) on) dated;
  }

  streamed_out : (flights : List Flown) (serving : Served D) (epoch count : ℕ) (old new : Feeding D) (input a b : Option (List ℕ))
      → IsFeedOver flights serving epoch count old → IfSome input (IsStreamed old new a b) → IfSome input (IsFedOut flights serving epoch count a b)
  streamed_out flights serving epoch count old new None a b over streamed = tt
  streamed_out flights serving epoch count old new (Some xs) a b over streamed = record { old = old; new = new; over = over; streamed = streamed }

  -- the feed was over, and the journal's end failed
  pub fed_out : (flights : List Flown) (serving : Served D) (epoch count : ℕ) (old new : Feeding D) (f : ServeFault) (input a b : Option (List ℕ))
      → IsFeedOver flights serving epoch count old → IfSome input (IsStreamed old new a b)
      → (e : ServeFault) → End f ≡ End e → IfSome input (IsFedOut flights serving epoch count a b)
  fed_out flights serving epoch count old new f input a b over streamed e is =
      streamed_out flights serving epoch count old new input a b over streamed

  pub no_opening_streamed : (flights : List Flown) (serving : Served D) (epoch count : ℕ) (f : FedFault) (input a b : Option (List ℕ)) → IsOfOpening f
      → (e : ServeFault) → f ≡ End e → IfSome input (IsFedOut flights serving epoch count a b)
  no_opening_streamed flights serving epoch count f input a b of e is = absurd (subst IsOfOpening is of)

  pub no_broken_streamed : (flights : List Flown) (serving : Served D) (epoch count : ℕ) (x : StreamFault) (input a b : Option (List ℕ))
      → (e : ServeFault) → Broken x ≡ End e → IfSome input (IsFedOut flights serving epoch count a b)
  no_broken_streamed flights serving epoch count x input a b e is = absurd (cc is)

  pub no_seal_streamed : (flights : List Flown) (serving : Served D) (epoch count : ℕ) (x : DeskFault) (input a b : Option (List ℕ))
      → (e : ServeFault) → Seal x ≡ End e → IfSome input (IsFedOut flights serving epoch count a b)
  no_seal_streamed flights serving epoch count x input a b e is = absurd (cc is)

  lines_are : (feed : Feeding D) → feed.pending.asked.items ≡ []
      → behind feed.serving.grid feed.serving.journal feed.pending.asked.items ≡ feed.serving.journal
  lines_are feed none = ap (behind feed.serving.grid feed.serving.journal) none ∙ append-nil feed.serving.journal

  -- and what the journal is behind it
  pub lived_to : (flights : List Flown) (serving : Served D) (epoch count : ℕ) (old new : Feeding D) (s : Served D) (journal : List Entry)
      → IsFeedOver flights serving epoch count old → Lived old new → new.pending.asked.items ≡ [] → s ≡ new.serving → journal ≡ s.journal
      → IsLivedTo flights serving count journal
  lived_to flights serving epoch count old new s journal over lived none same is =
      let now : List Entry = come_to new.serving new.pending in
      let rest : List Entry = ahead_of new.serving new.pending in
      let lines : behind old.serving.grid old.serving.journal old.pending.asked.items ≡ serving.journal =
      lines_are old over.none_asked ∙ ap (λ (x : Served D). x.journal) over.serving_is in
      record {
        calls = lived.calls;
        now = now;
        rest = rest;
        lives = subst (λ (x : Ladders × ℕ × List Flown × List Entry × List Entry).
            LivesThrough x.0 x.1 (asking_of x.2) (IsVeryCall x.2) x.3 x.4 lived.calls now rest)
            (λ i. (
              (over.serving_is i).grid,
              (over.serving_is i).cap,
              over.flights_are i,
              take (over.behind_is i) (lines i),
              drop (over.behind_is i) (lines i),
            )) lived.lives;
        journal_is = is ∙ ap (λ (x : Served D). x.journal) same ∙ sym (lines_are new none)
            ∙ sym (take-append-drop new.pending.progress.lines (behind new.serving.grid new.serving.journal new.pending.asked.items));
      }

  module _ (seen : D → Option (List ℕ)) (leaves : D → List ℕ → Type 0) (unsynced failures : D → ℕ) where
    -- ---- where it is broken off

    pub breaks_over : (old mid new : Served D) (b : StreamFault) → Breaks seen leaves unsynced failures mid new b → mid ≡ old
        → Breaks seen leaves unsynced failures old new b
    breaks_over old mid new b breaks from = subst (λ (x : Served D). Breaks seen leaves unsynced failures x new b) from breaks

    pub told_broken : (old new s : Served D) (b : StreamFault) (tape : D) → Breaks seen leaves unsynced failures old new b → s ≡ new
        → tape ≡ s.tape → KeepsFront (open_text old.kept) (leaves tape)
    told_broken old new s b tape breaks same is =
        subst (λ (t : D). KeepsFront (open_text old.kept) (leaves t)) (sym (is ∙ ap (λ (x : Served D). x.tape) same)) breaks.told

    pub left_broken : (old new s : Served D) (b : StreamFault) (tape : D) → Breaks seen leaves unsynced failures old new b → s ≡ new
        → tape ≡ s.tape → is_of_journal (Broken b) ≡ false → IsLeftOpen old.kept (seen tape) (leaves tape) (unsynced tape)
    left_broken old new s b tape breaks same is other =
        left_open seen leaves unsynced failures old new s tape (breaks.still (no_journal b other)) same is breaks.grows

    pub counts_broken : (old new s : Served D) (b : StreamFault) (tape : D) → Breaks seen leaves unsynced failures old new b → s ≡ new
        → tape ≡ s.tape → IsTrue (is_of_journal (Broken b)) → failures tape ≡ noted (failures old.tape)
    counts_broken old new s b tape breaks same is of =
        ap failures (is ∙ ap (λ (x : Served D). x.tape) same) ∙ breaks.device (a_journal b of)

    -- ---- where the end failed

    pub left_ended : (old new s : Served D) (fault : ServeFault) (tape : D) → GoesOn seen leaves unsynced failures old new → s ≡ new
        → (fault ≡ ends.Memory → tape ≡ s.tape) → is_of_journal (End fault) ≡ false
        → IsLeftOpen old.kept (seen tape) (leaves tape) (unsynced tape)
    left_ended old new s fault tape goes same memory other =
        left_open seen leaves unsynced failures old new s tape goes.is_ready same (memory (no_device fault other)) goes.grows

    pub counts_ended : (old new s : Served D) (fault : ServeFault) (tape : D) → GoesOn seen leaves unsynced failures old new → s ≡ new
        → (fault ≡ ends.Device → failures tape ≡ noted (failures s.tape)) → IsTrue (is_of_journal (End fault))
        → failures tape ≡ noted (failures old.tape)
    counts_ended old new s fault tape goes same device of =
        device (a_device fault of) ∙ ap noted (ap (λ (x : Served D). failures x.tape) same ∙ goes.counted)
