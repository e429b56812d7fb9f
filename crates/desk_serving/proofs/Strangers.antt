-- A feed that is another's books nothing.
use Rattle.std.proofs.Common.{◌≡◌, ℕ, ◌==◌, Bool, true, false, List, [], ◌∷◌, ◌++◌, drop, ap, sym, ◌∙◌, subst, append_assoc, append-nil, take-append-drop}
use Rattle.std.specs.Prelude.{Option}
use Rattle.desk_answers.specs.Hosts.{IsReady}
use Rattle.desk_feed.specs.Feeding.{Asking, is_call, IsStrangeBy, LivesBy, LivesThrough}
use Rattle.desk_stream.specs.Feeds.{Feeding, IsStrangeLine}
use Rattle.desk_stream.specs.Hearing.{ahead_of, called_by, come_to, IsStrangeStep}
use Rattle.desk_stream.specs.Hearing.{IsStrangeBy as IsStrangeMeant}
use Rattle.desk_stream.specs.Laws.{IsVeryCall}
use Rattle.desk_stream.specs.Wanting.{asking_of, IsVery}
use Rattle.desk_stream.specs.declared.meant.Meant.{Meant}
use Rattle.desk_stream.specs.declared.meant.Meant.TheVariants as meants
use Rattle.desk_stream.specs.declared.reading.Step.{Step}
use Rattle.desk_stream.specs.declared.reading.Step.TheVariants as steps
use Rattle.desk_serving.specs.Serving.{IsFeedOver, IsStrangeFed}
use Rattle.desk_serving.specs.Streaming.{Breaks, IsStrangeEnd, StopsAt}
use Rattle.desk_serving.specs.declared.fault.StreamFault.{StreamFault}
use Rattle.desk_serving.specs.declared.fault.StreamFault.TheVariants.{Strange}
use Rattle.desk_serving.specs.declared.fault.FedFault.TheVariants.{Broken}
use Rattle.seat_journal.specs.declared.entry.Entry.{Entry}
use Rattle.seat_journal.specs.declared.entry.Work.{Work}
use Rattle.seat_nesting.specs.Nesting.{Ladders}
use Rattle.seat_serving.specs.Answering.{behind}
use Rattle.seat_serving.specs.Served.{IsOnDisk, Served}
use Rattle.ssim_flights.specs.declared.flight.Flight.{Flight as Flown}

module _ {A : Type 0} (grid : Ladders) (cap : ℕ) (asks : A → Asking) (IsVery : A → Work → Type 0) where
  -- where none is ahead none is ever
  none_ahead : (past : List Entry) (feed : List A) (now rest : List Entry) → LivesThrough grid cap asks IsVery past [] feed now rest → rest ≡ []
  none_ahead past [] now rest lives = lives.1
  none_ahead past (x ∷ feed) now rest lives =
      let over : lives.1 ≡ [] = cases (is_call past (asks x)) lives.2 in
      none_ahead lives.0 feed now rest (subst (λ (l : List Entry). LivesThrough grid cap asks IsVery lives.0 l feed now rest) over lives.3)
    where
      cases : (b : Bool) → LivesBy b grid cap (asks x) (IsVery x) past [] lives.0 lives.1 → lives.1 ≡ []
      cases true h = h.1
      cases false h = h.1

  -- and where some are ahead at last nothing was booked
  same_lines : (past ahead : List Entry) (feed : List A) (now rest : List Entry) → LivesThrough grid cap asks IsVery past ahead feed now rest
      → (rest ≡ [] → ⊥) → now ++ rest ≡ past ++ ahead
  same_lines past ahead [] now rest lives some = ap (λ (l : List Entry). l ++ rest) lives.0 ∙ ap (λ (l : List Entry). past ++ l) lives.1
  same_lines past ahead (x ∷ feed) now rest lives some =
      same_lines lives.0 lives.1 feed now rest lives.3 some ∙ cases (is_call past (asks x)) ahead lives.2
    where
      cases : (b : Bool) (ahead : List Entry) → LivesBy b grid cap (asks x) (IsVery x) past ahead lives.0 lives.1 → lives.0 ++ lives.1 ≡ past ++ ahead
      cases true [] h =
          absurd (some (none_ahead lives.0 feed now rest
          (subst (λ (l : List Entry). LivesThrough grid cap asks IsVery lives.0 l feed now rest) h.1 lives.3)))
      cases true (e ∷ rest_of) h =
          ap (λ (l : List Entry). l ++ lives.1) h.1 ∙ ap (λ (l : List Entry). (past ++ e ∷ []) ++ l) h.2 ∙ append_assoc past (e ∷ []) rest_of
      cases false ahead h = ap (λ (l : List Entry). l ++ lives.1) h.0 ∙ ap (λ (l : List Entry). past ++ l) h.1

-- a line of the journal is ahead of a stranger's
some_ahead : (b : Bool) (a : Asking) (IsVery : Work → Type 0) (ahead : List Entry) → IsStrangeBy b a IsVery ahead → ahead ≡ [] → ⊥
some_ahead true a IsVery [] strange none = absurd strange
some_ahead true a IsVery (e ∷ ahead) strange none = absurd (cc none)
some_ahead false a IsVery ahead strange none = absurd strange

module _ {D : Type 0} where
  by_meant : (feed : Feeding D) (session : ℕ) (own : Bool) (meant : Meant)
      → IsStrangeMeant feed.flights feed.serving own feed.pending session meant → ahead_of feed.serving feed.pending ≡ [] → ⊥
  by_meant feed session own (meants.Said turn) strange none = absurd strange
  by_meant feed session own (meants.Called number wanted) strange none =
      some_ahead (is_call (come_to feed.serving feed.pending) (asking_of feed.flights (called_by session number wanted)))
      (asking_of feed.flights (called_by session number wanted)) (IsVery feed.flights wanted)
      (ahead_of feed.serving feed.pending) strange.1 none

  by_step : (feed : Feeding D) (line : List ℕ) (own : Bool) (step : Step)
      → IsStrangeStep step feed.flights feed.serving own feed.desks feed.pending line → ahead_of feed.serving feed.pending ≡ [] → ⊥
  by_step feed line own (steps.Told turn) strange none = absurd strange
  by_step feed line own steps.Silent strange none = absurd strange
  by_step feed line own (steps.Line session today) strange none = by_meant feed session own strange.meant strange.strange none

  stranger_ahead : (feed : Feeding D) (line : List ℕ) → IsStrangeLine feed line → ahead_of feed.serving feed.pending ≡ [] → ⊥
  stranger_ahead feed line is none = by_step feed line (is.reading.epoch == feed.epoch) is.step is.strange none

  stops_ahead : (feed : Feeding D) → StopsAt feed → ahead_of feed.serving feed.pending ≡ [] → ⊥
  stops_ahead feed stops none =
      stranger_ahead stops.old stops.line stops.strange
      ((λ i. drop ((sym stops.same.progress_is i).lines) (behind (sym stops.but.serving_is i).grid (sym stops.but.serving_is i).journal (sym stops.same.asked_is i)))
      ∙ none)

  lines_are : (feed : Feeding D) → behind feed.serving.grid feed.serving.journal feed.pending.asked.items
      ≡ come_to feed.serving feed.pending ++ ahead_of feed.serving feed.pending
  lines_are feed = sym (take-append-drop feed.pending.progress.lines (behind feed.serving.grid feed.serving.journal feed.pending.asked.items))

  -- the journal is the one that was there
  pub unbooked : (old new : Feeding D) (line number : ℕ) → IsStrangeEnd old new line number → old.pending.asked.items ≡ []
      → new.serving.journal ≡ old.serving.journal
  unbooked old new line number is none =
      is.booked ∙ lines_are is.mid
      ∙ same_lines old.serving.grid old.serving.cap (asking_of old.flights) (IsVeryCall old.flights) (come_to old.serving old.pending)
      (ahead_of old.serving old.pending) is.lived.calls (come_to is.mid.serving is.mid.pending) (ahead_of is.mid.serving is.mid.pending)
      is.lived.lives (stops_ahead is.mid is.stops)
      ∙ sym (lines_are old) ∙ ap (behind old.serving.grid old.serving.journal) none ∙ append-nil old.serving.journal

  module _ (seen : D → Option (List ℕ)) (leaves : D → List ℕ → Type 0) (unsynced failures : D → ℕ) where
    -- and so is its file
    pub strange_fed : (flights : List Flown) (serving : Served D) (epoch count : ℕ) (old new : Feeding D) (s : Served D) (b : StreamFault) (tape : D)
        → IsFeedOver flights serving epoch count old → Breaks seen leaves unsynced failures serving new.serving b
        → ((line number : ℕ) → b ≡ Strange line number → IsStrangeEnd old new line number) → s ≡ new.serving → tape ≡ s.tape
        → (line number : ℕ) → Broken b ≡ Broken (Strange line number)
        → IsStrangeFed flights serving epoch count line number (seen tape) (leaves tape)
    strange_fed flights serving epoch count old new s b tape over breaks ends same is line number broken =
        let strange : b ≡ Strange line number = cc broken in
        let one : IsStrangeEnd old new line number = ends line number strange in
        let ready : IsReady seen leaves unsynced new.serving = breaks.still (λ h. absurd (cc (sym strange ∙ h))) in
        let lines : new.serving.journal ≡ serving.journal =
        unbooked old new line number one over.none_asked ∙ ap (λ (x : Served D). x.journal) over.serving_is in
        record {
          old = old;
          new = new;
          over = over;
          strange = one;
          unbooked = subst (λ (t : D). IsOnDisk serving.journal (seen t) (leaves t)) (sym (is ∙ ap (λ (x : Served D). x.tape) same))
              (subst (λ (l : List Entry). IsOnDisk l (seen new.serving.tape) (leaves new.serving.tape)) lines ready.disk);
        }
