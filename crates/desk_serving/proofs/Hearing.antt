-- Lines that are heard, one behind the other.
use Rattle.std.proofs.Common.{◌≡◌, ⊎_elim, inl, inr, ℕ, ◌+◌, ◌<◌, ◌≤◌, ◌==◌, Bool, true, false, List, [], ◌∷◌, ◌++◌, length, take, drop, get_or, refl, ap, sym, ◌∙◌, subst, take-append-drop, arith}
use Rattle.std.proofs.lemmas.Bool.Decides.{nat_tests}
use Rattle.std.proofs.lemmas.List.{take_all, take_more}
use Rattle.airline_base.specs.Lines.{is_line_feed}
use Rattle.desk_feed.specs.Feeding.{Asking, LivesThrough}
use Rattle.desk_lines.specs.declared.desk.Desk.{Desk}
use Rattle.desk_stream.specs.Feeds.{read_behind, Feeding, HasComeAsFar, IsHeard, IsOwnLine, IsStrangeLine}
use Rattle.desk_stream.specs.Hearing.{ahead_of, called_by, come_to, CallsBy, ComesBy, HearsBy, IsPlanned, IsSamePending}
use Rattle.desk_stream.specs.Laws.{IsVeryCall}
use Rattle.desk_stream.specs.Wanting.{asking_of}
use Rattle.desk_stream.specs.declared.hearing.FeedFault.{FeedFault}
use Rattle.desk_stream.specs.declared.hearing.FeedFault.TheVariants.{Memory as Wanting, Strange as Stranger}
use Rattle.desk_stream.specs.declared.meant.Meant.{Meant}
use Rattle.desk_stream.specs.declared.meant.Meant.TheVariants as meants
use Rattle.desk_stream.specs.declared.planning.Called.{Called}
use Rattle.desk_stream.specs.declared.reading.Step.{Step}
use Rattle.desk_stream.specs.declared.reading.Step.TheVariants as steps
use Rattle.desk_serving.specs.Streaming.{held, Hears, HearsFront, IsEnd, IsHeld, IsLineHeard, IsSameBut, Lived, StopsAt, WantsAt}
use Rattle.seat_journal.specs.declared.entry.Entry.{Entry}
use Rattle.seat_journal.specs.declared.entry.Work.{Work}
use Rattle.seat_nesting.specs.Nesting.{Ladders}
use Rattle.seat_serving.specs.Answering.{behind}
use Rattle.seat_serving.specs.Served.{Served}
use Rattle.ssim_flights.specs.declared.flight.Flight.{Flight as Flown}

-- some calls, and then others
lives_on : {A : Type 0} (grid : Ladders) (cap : ℕ) (asks : A → Asking) (IsVery : A → Work → Type 0) (past ahead : List Entry) (xs ys : List A)
    (mid left now rest : List Entry) → LivesThrough grid cap asks IsVery past ahead xs mid left
    → LivesThrough grid cap asks IsVery mid left ys now rest → LivesThrough grid cap asks IsVery past ahead (xs ++ ys) now rest
lives_on grid cap asks IsVery past ahead [] ys mid left now rest one two =
    subst (λ (l : List Entry). LivesThrough grid cap asks IsVery past l ys now rest) one.1
    (subst (λ (l : List Entry). LivesThrough grid cap asks IsVery l left ys now rest) one.0 two)
lives_on grid cap asks IsVery past ahead (x ∷ xs) ys mid left now rest one two =
    (one.0, one.1, one.2, lives_on grid cap asks IsVery one.0 one.1 xs ys mid left now rest one.3 two)

module _ {D : Type 0} where
  pub same_none : (feed : Feeding D) → IsSameBut feed feed
  same_none feed = record { serving_is = refl; flights_are = refl; epoch_is = refl }

  pub same_on : (old mid new : Feeding D) → IsSameBut old mid → IsSameBut mid new → IsSameBut old new
  same_on old mid new a b = record {
    serving_is = b.serving_is ∙ a.serving_is;
    flights_are = b.flights_are ∙ a.flights_are;
    epoch_is = b.epoch_is ∙ a.epoch_is;
  }

  pub same_but : (old new : Feeding D) → (new.serving ≡ old.serving) × (new.flights ≡ old.flights) × (new.epoch ≡ old.epoch)
      → IsSameBut old new
  same_but old new same = record { serving_is = same.0; flights_are = same.1; epoch_is = same.2 }

  pub line_heard : (old new : Feeding D) (line : List ℕ) → IsHeard old new line
      → (new.serving ≡ old.serving) × (new.flights ≡ old.flights) × (new.epoch ≡ old.epoch) → IsLineHeard old new line
  line_heard old new line heard same = record { heard = heard; same = same_but old new same }

  -- ---- what the feed has come to

  -- the same lines
  come_far : (old new : Feeding D) → come_to new.serving new.pending ≡ come_to old.serving old.pending
      → ahead_of new.serving new.pending ≡ ahead_of old.serving old.pending → new.serving.grid ≡ old.serving.grid
      → new.serving.cap ≡ old.serving.cap → new.flights ≡ old.flights → Lived old new
  come_far old new come ahead grid cap flights = record {
    calls = [];
    lives = (come, ahead);
    grid_is = grid;
    cap_is = cap;
    flights_are = flights;
  }

  pub lived_none : (feed : Feeding D) → Lived feed feed
  lived_none feed = come_far feed feed refl refl refl refl refl

  pub lived_stays : (old new : Feeding D) → new.pending.progress ≡ old.pending.progress → new.pending.asked.items ≡ old.pending.asked.items
      → new.serving ≡ old.serving → new.flights ≡ old.flights → Lived old new
  lived_stays old new progress asked serving flights =
      come_far old new
      (λ i. take ((progress i).lines) (behind (serving i).grid (serving i).journal (asked i)))
      (λ i. drop ((progress i).lines) (behind (serving i).grid (serving i).journal (asked i)))
      (ap (λ (s : Served D). s.grid) serving) (ap (λ (s : Served D). s.cap) serving) flights

  pub lived_far : (old new : Feeding D) → HasComeAsFar old new → new.serving.grid ≡ old.serving.grid → new.serving.cap ≡ old.serving.cap
      → new.flights ≡ old.flights → Lived old new
  lived_far old new far grid cap flights = come_far old new far.come far.ahead grid cap flights

  pub lived_on : (old mid new : Feeding D) → Lived old mid → Lived mid new → Lived old new
  lived_on old mid new a b = record {
    calls = a.calls ++ b.calls;
    lives = lives_on old.serving.grid old.serving.cap (asking_of old.flights) (IsVeryCall old.flights)
        (come_to old.serving old.pending) (ahead_of old.serving old.pending) a.calls b.calls
        (come_to mid.serving mid.pending) (ahead_of mid.serving mid.pending)
        (come_to new.serving new.pending) (ahead_of new.serving new.pending) a.lives
        (subst (λ (x : Ladders × ℕ × List Flown). LivesThrough x.0 x.1 (asking_of x.2) (IsVeryCall x.2)
        (come_to mid.serving mid.pending) (ahead_of mid.serving mid.pending) b.calls
        (come_to new.serving new.pending) (ahead_of new.serving new.pending))
        (λ i. (a.grid_is i, a.cap_is i, a.flights_are i)) b.lives);
    grid_is = b.grid_is ∙ a.grid_is;
    cap_is = b.cap_is ∙ a.cap_is;
    flights_are = b.flights_are ∙ a.flights_are;
  }

  -- by a numbered line
  one_call : (old new : Feeding D) (desk : Desk) (c : Called) → IsPlanned old.flights old.serving old.pending new.pending desk c
      → new.serving ≡ old.serving → new.flights ≡ old.flights → Lived old new
  one_call old new desk c planned serving flights = record {
    calls = c ∷ [];
    lives = (
      come_to old.serving new.pending,
      ahead_of old.serving new.pending,
      planned.lives,
      ((λ i. come_to (serving i) new.pending), (λ i. ahead_of (serving i) new.pending)),
    );
    grid_is = ap (λ (s : Served D). s.grid) serving;
    cap_is = ap (λ (s : Served D). s.cap) serving;
    flights_are = flights;
  }

  by_own : (old new : Feeding D) (desk : Desk) (c : Called) (own : Bool) → CallsBy own old.flights old.serving old.pending new.pending desk c
      → new.serving ≡ old.serving → new.flights ≡ old.flights → Lived old new
  by_own old new desk c true calls serving flights = one_call old new desk c calls serving flights
  by_own old new desk c false calls serving flights = lived_stays old new calls.progress_is calls.asked_is serving flights

  by_meant : (old new : Feeding D) (desk : Desk) (session : ℕ) (own : Bool) (meant : Meant)
      → ComesBy old.flights old.serving own old.pending new.pending session desk meant
      → new.serving ≡ old.serving → new.flights ≡ old.flights → Lived old new
  by_meant old new desk session own (meants.Said turn) comes serving flights =
      lived_stays old new comes.progress_is comes.asked_is serving flights
  by_meant old new desk session own (meants.Called number wanted) comes serving flights =
      by_own old new desk (called_by session number wanted) own comes serving flights

  by_step : (old new : Feeding D) (line : List ℕ) (own : Bool) (step : Step)
      → HearsBy step old.flights old.serving own old.desks new.desks old.pending new.pending line
      → new.serving ≡ old.serving → new.flights ≡ old.flights → Lived old new
  by_step old new line own (steps.Told turn) hears serving flights =
      lived_stays old new hears.0.progress_is hears.0.asked_is serving flights
  by_step old new line own steps.Silent hears serving flights =
      lived_stays old new hears.0.progress_is hears.0.asked_is serving flights
  by_step old new line own (steps.Line session today) hears serving flights =
      by_meant old new hears.desk session own hears.meant hears.comes serving flights

  pub line_lived : (old new : Feeding D) (line : List ℕ) → IsHeard old new line
      → (new.serving ≡ old.serving) × (new.flights ≡ old.flights) × (new.epoch ≡ old.epoch) → Lived old new
  line_lived old new line heard same =
      by_step old new line (new.reading.epoch == old.epoch) heard.step heard.hears same.0 same.1

  pub same_lived : (old new : Feeding D) → IsSamePending old.pending new.pending
      → (new.serving ≡ old.serving) × (new.flights ≡ old.flights) × (new.epoch ≡ old.epoch) → Lived old new
  same_lived old new same but = lived_stays old new same.progress_is same.asked_is but.0 but.1

  pub stops_at : (old new : Feeding D) (line : List ℕ) (fault : FeedFault) → (fault ≡ Stranger → IsStrangeLine old line)
      → IsSamePending old.pending new.pending → (new.serving ≡ old.serving) × (new.flights ≡ old.flights) × (new.epoch ≡ old.epoch)
      → new.reading ≡ read_behind old line → fault ≡ Stranger → StopsAt new
  stops_at old new line fault strange same but read is =
      record { old = old; line = line; strange = strange is; same = same; but = same_but old new but; read = read }

  pub wants_at : (old new : Feeding D) (line : List ℕ) (fault : FeedFault) → (fault ≡ Wanting → IsOwnLine old line)
      → IsSamePending old.pending new.pending → (new.serving ≡ old.serving) × (new.flights ≡ old.flights) × (new.epoch ≡ old.epoch)
      → new.reading ≡ read_behind old line → fault ≡ Wanting → WantsAt new
  wants_at old new line fault own same but read is =
      record { old = old; line = line; own = own is; same = same; but = same_but old new but; read = read }

  -- ---- bytes

  abbrev Holds : Feeding D → List ℕ → ℕ → List ℕ → Feeding D → List ℕ → Type 0
  Holds old before c bytes new after = IsHeld c × Hears old (held (before ++ c ∷ [])) bytes new after

  abbrev Ends : Feeding D → List ℕ → ℕ → List ℕ → Feeding D → List ℕ → Type 0
  Ends old before c bytes new after =
      (mid : Feeding D) × IsEnd c × IsLineHeard old mid (held (before ++ c ∷ [])) × Hears mid [] bytes new after

  pub hears_none : (feed : Feeding D) (before : List ℕ) → Hears feed before [] feed before
  hears_none feed before = (refl, refl)

  hears_on : (old mid new : Feeding D) (before between after xs ys : List ℕ) → Hears old before xs mid between
      → Hears mid between ys new after → Hears old before (xs ++ ys) new after
  hears_on old mid new before between after [] ys one two =
      let here : Hears old between ys new after = subst (λ (f : Feeding D). Hears f between ys new after) one.0 two in
      subst (λ (b : List ℕ). Hears old b ys new after) one.1 here
  hears_on old mid new before between after (c ∷ xs) ys one two =
      ⊎_elim
      (λ (h : Holds old before c xs mid between). inl (h.0, hears_on old mid new (held (before ++ c ∷ [])) between after xs ys h.1 two))
      (λ (e : Ends old before c xs mid between). inr (e.0, e.1, e.2, hears_on e.0 mid new [] between after xs ys e.3 two))
      one

  -- a byte that is held
  pub byte_held : (feed : Feeding D) (before after : List ℕ) (byte : ℕ) → (byte ≡ 10 → ⊥) → after ≡ held (before ++ byte ∷ [])
      → Hears feed before (byte ∷ []) feed after
  byte_held feed before after byte other is =
      let no_end : is_line_feed byte ≡ false = grind (arith, nat_tests) in inl (no_end, (refl, is))

  -- a byte that ends a line
  pub line_ended : (old new : Feeding D) (before line after : List ℕ) (byte : ℕ) → IsLineHeard old new line → byte ≡ 10
      → line ≡ held (before ++ byte ∷ []) → after ≡ [] → Hears old before (byte ∷ []) new after
  line_ended old new before line after byte heard is whole none =
      let end : is_line_feed byte ≡ true = grind (arith, nat_tests) in
      inr (new, end, subst (λ (l : List ℕ). IsLineHeard old new l) whole heard, (refl, none))

  -- the bytes of a piece, one by one
  pub hears_more : (old mid new : Feeding D) (before between after piece : List ℕ) (i byte : ℕ) → Hears old before (take i piece) mid between
      → i < length piece → byte ≡ get_or piece i 0 → Hears mid between (byte ∷ []) new after
      → Hears old before (take (i + 1) piece) new after
  hears_more old mid new before between after piece i byte so_far in_range here one =
      let longer : take (i + 1) piece ≡ take i piece ++ byte ∷ [] = take_more piece i 0 in_range ∙ ap (λ (x : ℕ). take i piece ++ x ∷ []) (sym here) in
      subst (λ (l : List ℕ). Hears old before l new after) (sym longer)
      (hears_on old mid new before between after (take i piece) (byte ∷ []) so_far one)

  -- all of the piece
  pub hears_all : (old new : Feeding D) (before after piece : List ℕ) (i : ℕ) → Hears old before (take i piece) new after → length piece ≤ i
      → Hears old before piece new after
  hears_all old new before after piece i so_far over =
      subst (λ (l : List ℕ). Hears old before l new after) (take_all i piece over) so_far

  -- the bytes of a piece ahead of one by which nothing is heard
  pub hears_front : (old mid new : Feeding D) (before between piece : List ℕ) (i : ℕ) → Hears old before (take i piece) mid between
      → IsSamePending mid.pending new.pending → IsSameBut mid new → HearsFront old before piece new
  hears_front old mid new before between piece i so_far same but = record {
    part = take i piece;
    rest = drop i piece;
    whole = sym (take-append-drop i piece);
    heard = mid;
    held_is = between;
    hears = so_far;
    same = same;
    same_but = but;
  }
