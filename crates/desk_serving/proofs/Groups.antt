-- The lines of a group, and what each desk is told of them.
use Rattle.std.proofs.Common.{◌≡◌, ◌<◌, ◌≤◌, ℕ, suc, ◌+◌, ◌-◌, ◌==◌, ◌&&◌, Bool, true, false, List, [], ◌∷◌, ◌++◌, length, map, take, get_or, refl, sym, ap, ◌∙◌, subst, arith, length-append}
use Rattle.std.proofs.Math.Bool.{and-true, and_assoc}
use Rattle.std.proofs.lemmas.List.{map-append, take_all, take_more}
use Rattle.std.specs.Prelude.{All, Option, Some, None, is_some, replicate, slice_get, Result, Ok, Err, IfOk}
use Rattle.desk_answers.specs.FaultLines.{memory_line}
use Rattle.desk_hall.specs.Halls.{Hallful, IsOpened, IsPassed, IsPiece, IsSameHall, IsToldTo, IsUnheard, IsUnordered}
use Rattle.desk_hall.specs.Pieces.{again_asked, backlog_of}
use Rattle.desk_pipes.specs.Waiting.{Posted}
use Rattle.desk_lines.specs.declared.desk.Desk.{Desk}
use Rattle.desk_pipes.specs.declared.inbox.Said.{Said}
use Rattle.desk_serving.specs.Going.{is_apart}
use Rattle.desk_serving.specs.Groups.{AreFrom, AreGroups, AreNotices, AreSteps, AreTaken, AreTold, GoesThrough, IsAnswered, IsBooked, IsCaughtUp, IsCaughtUpBy, IsForgotten, IsGiven, IsGroup, IsHallOver, IsOne, IsOneBy, IsOwn, IsServed, IsServedTo, IsStep, IsStepped, IsTaken, IsTakenApart, IsTakenUp, IsTold, IsToldOn, IsUnheardAs, IsWanting, IsWordAnswered, IsWordClosed, SaysWanting, goes_on}
use Rattle.desk_serving.specs.Silence.{IsSilentAt}
use Rattle.desk_serving.proofs.Passes.{not_zero}
use Rattle.desk_serving.specs.declared.step.Step.{Step}
use Rattle.desk_serving.specs.declared.taking.Taking.{Taking}
use Rattle.desk_serving.specs.declared.taking.Taking.TheVariants.{Nobodys}
use Rattle.seat_journal.specs.declared.entry.Entry.{Entry}
use Rattle.seat_serving.specs.Answering.{behind}
use Rattle.seat_serving.specs.Served.{Served}
use Rattle.ssim_flights.specs.declared.flight.Flight.{Flight as Flown}

true_and : (b : Bool) → b ≡ (true && b)
true_and true = refl
true_and false = refl

none_behind : (b : Option ℕ) → is_some b ≡ false → b ≡ None
none_behind None is = refl
none_behind (Some n) is = absurd cc

module _ {D : Type 0} where
  -- ---- answers

  pub booked : (old new : Hallful D) → new.serving.journal ≡ behind old.serving.grid old.serving.journal old.asked → new.asked ≡ []
      → IsSameHall old new → IsBooked old new
  booked old new journal none same = record { journal_is = journal; none_asked = none; same = same }

  pub told : (old new : Hallful D) (notices : List Posted) → AreTold old notices → new.turns ≡ []
      → (new.serving ≡ old.serving) × (new.desks ≡ old.desks) × (new.manager ≡ old.manager) × (new.asked ≡ old.asked)
      × (new.today ≡ old.today) × (new.flights ≡ old.flights) × (new.backlogs ≡ old.backlogs) → IsTold old new
  told old new notices are none same = record {
    notices = notices;
    told = are;
    none_told = none;
    serving_is = same.0;
    asked_is = same.3;
    desks_are = same.1;
    manager_is = same.2;
    today_is = same.4;
    flights_are = same.5;
    backlogs_are = same.6;
  }

  pub answered : (old mid new : Hallful D) → IsBooked old mid → IsTold mid new → IsAnswered old new
  answered old mid new a b = record { mid = mid; booked = a; told = b }

  -- ---- notices

  pub no_notices : (hall : Hallful D) → AreNotices hall 0 []
  no_notices hall = record { each = tt; count_is = refl }

  one_more : (hall : Hallful D) (session : ℕ) (notices : List Posted) (notice : Posted) → AreFrom hall session notices
      → IsOwn hall (session + length notices) notice → AreFrom hall session (notices ++ notice ∷ [])
  one_more hall session [] notice are is =
      let none : session + 0 ≡ session = omega arith in (subst (λ (n : ℕ). IsOwn hall n notice) none is, tt)
  one_more hall session (t ∷ notices) notice are is =
      let same : session + suc (length notices) ≡ suc session + length notices = omega arith in
      (are.0, one_more hall (suc session) notices notice are.1 (subst (λ (n : ℕ). IsOwn hall n notice) same is))

  notice_more : (hall : Hallful D) (session : ℕ) (notices : List Posted) (notice : Posted) → AreNotices hall session notices
      → IsOwn hall session notice → AreNotices hall (session + 1) (notices ++ notice ∷ [])
  notice_more hall session notices notice are is =
      let here : session ≡ 0 + length notices = omega (arith, are.count_is) in
      record {
        each = one_more hall 0 notices notice are.each (subst (λ (n : ℕ). IsOwn hall n notice) here is);
        count_is = length-append notices (notice ∷ []) ∙ ap (λ (n : ℕ). n + 1) are.count_is;
      }

  pub is_own : (hall : Hallful D) (session : ℕ) (text : List ℕ) (notice : Posted) → IsToldTo hall session text → notice.session ≡ session
      → notice.text ≡ text → IsOwn hall session notice
  is_own hall session text notice told whose is = record { session_is = whose; told = subst (IsToldTo hall session) (sym is) told }

  -- the next of them has its own, and the hall is the same
  pub notice_told : (start hall new : Hallful D) (session : ℕ) (before after : List Posted) (notice : Posted) → hall ≡ start → new ≡ hall
      → AreNotices start session before → IsOwn hall session notice → after ≡ before ++ notice ∷ []
      → (new ≡ start) × AreNotices start (session + 1) after
  notice_told start hall new session before after notice same still are is longer = (
    still ∙ same,
    subst (AreNotices start (session + 1)) (sym longer)
        (notice_more start session before notice are (subst (λ (h : Hallful D). IsOwn h session notice) same is)),
  )

  pub all_notices : (hall : Hallful D) (count session : ℕ) (notices : List Posted) → AreNotices hall session notices → session ≡ count + 1
      → count ≡ length hall.desks → AreTold hall notices
  all_notices hall count session notices are is desks =
      subst (λ (n : ℕ). AreNotices hall n notices) (is ∙ ap (λ (n : ℕ). n + 1) desks) are

  -- ---- a line

  pub nobodys : (old : Hallful D) (one : Said) → length old.desks < one.session → IsTakenUp old old one Nobodys
  nobodys old one beyond = record { nobodys = beyond; same = refl }

  pub says_wanting : (hall : Hallful D) (session number : ℕ) (told : Posted) → (session ≡ 0 → number ≡ hall.manager.lines)
      → (1 ≤ session → (desk : Desk) → slice_get hall.desks (session - 1) ≡ Some desk → number ≡ desk.lines) → told.session ≡ session
      → told.text ≡ memory_line session number → SaysWanting hall session told
  says_wanting hall session number told manager desk whose is =
      record { number = number; has_said = record { manager = manager; desk = desk }; session_is = whose; text_is = is }

  pub wanting : (old mid new : Hallful D) (session passed : ℕ) (line : List ℕ) (want told : Posted) → IsForgotten old mid session passed line
      → IsAnswered mid new → SaysWanting mid session want → told ≡ want → IsWanting old new session passed line told
  wanting old mid new session passed line want told a b says is =
      record { mid = mid; forgotten = a; answered = b; says = subst (SaysWanting mid session) (sym is) says }

  pub taken_up : (old first new : Hallful D) (one : Said) (taking : Taking) (goes : Bool) → IsCaughtUp old first one.session
      → IsTakenUp first new one taking → goes ≡ goes_on taking → IsTaken old new one goes
  taken_up old first new one taking goes caught taken is = record { first = first; caught = caught; taking = taking; taken = taken; goes_is = is }

  -- ---- who is behind

  -- a desk that is not behind is not behind its lines that were answered where they were read
  pub passed_told : (old mid : Hallful D) (session more : ℕ) → IsPassed old mid session more → backlog_of old.backlogs session ≡ None
      → backlog_of mid.backlogs session ≡ None
  passed_told old mid session more passed none = ap (λ (l : List (Option ℕ)). backlog_of l session) passed.same_host.backlogs_are ∙ none

  pub passed_manager : (old mid : Hallful D) (session more : ℕ) → IsPassed old mid session more → backlog_of old.backlogs session ≡ None
      → session ≡ 0 → backlog_of mid.backlogs 0 ≡ None
  passed_manager old mid session more passed none is =
      subst (λ (n : ℕ). backlog_of mid.backlogs n ≡ None) is (passed_told old mid session more passed none)

  pub given : (old new : Hallful D) (session most : ℕ) (text : List ℕ) (told : Posted) → IsPiece old new session most text
      → told.session ≡ session → told.text ≡ text → IsGiven old new session most told
  given old new session most text told piece whose is =
      record { session_is = whose; piece = subst (IsPiece old new session most) (sym is) piece }

  pub not_behind : (hall : Hallful D) (session : ℕ) (b : Bool) → b ≡ is_some (backlog_of hall.backlogs session) → b ≡ false
      → backlog_of hall.backlogs session ≡ None
  not_behind hall session b is never = none_behind (backlog_of hall.backlogs session) (sym is ∙ never)

  pub nothing_to_catch : (hall : Hallful D) (session : ℕ) (b : Bool) → b ≡ is_some (backlog_of hall.backlogs session) → b ≡ false
      → IsCaughtUp hall hall session
  nothing_to_catch hall session b is never = subst (λ (x : Bool). IsCaughtUpBy x hall hall session) (sym (sym is ∙ never)) refl

  pub taught_all : (old mid new : Hallful D) (session : ℕ) (told : Posted) (b : Bool) → b ≡ is_some (backlog_of old.backlogs session) → b ≡ true
      → IsAnswered old mid → IsGiven mid new session (length mid.serving.journal) told → IsCaughtUp old new session
  taught_all old mid new session told b is yet answer give =
      subst (λ (x : Bool). IsCaughtUpBy x old new session) (sym (sym is ∙ yet))
      (record { mid = mid; answered = answer; told = told; given = give })

  pub word_answered : (old mid new : Hallful D) → IsOpened (again_asked old.turns) old mid → IsAnswered mid new → IsWordAnswered old new
  word_answered old mid new a b = record { mid = mid; opened = a; answered = b }

  pub no_steps : (hall : Hallful D) → AreSteps 0 hall hall
  no_steps hall = refl

  pub steps_more : (old mid new : Hallful D) (sessions : ℕ) → AreSteps sessions old mid → IsStepped mid new sessions → AreSteps (sessions + 1) old new
  steps_more old mid new sessions a b =
      let same : suc sessions ≡ sessions + 1 = omega arith in
      subst (λ (n : ℕ). AreSteps n old new) same (mid, a, b)

  pub pieces_told : (start hall new : Hallful D) (session : ℕ) (step : Step) → AreSteps session start hall → hall.serving ≡ start.serving
      → hall.today ≡ start.today → IsStep hall new session step → (new.serving ≡ hall.serving) × (new.today ≡ hall.today)
      → AreSteps (session + 1) start new × (new.serving ≡ start.serving) × (new.today ≡ start.today)
  pieces_told start hall new session step are served on is same =
      (steps_more start hall new session are (record { step = step; is = is }), same.0 ∙ served, same.1 ∙ on)

  pub all_steps : (old new : Hallful D) (count session : ℕ) → AreSteps session old new → session ≡ count + 1 → count ≡ length old.desks
      → AreSteps (length old.desks + 1) old new
  all_steps old new count session a is desks =
      subst (λ (n : ℕ). AreSteps n old new) (is ∙ ap (λ (n : ℕ). n + 1) desks) a

  pub told_on : (old mid new : Hallful D) → IsAnswered old mid → AreSteps (length mid.desks + 1) mid new → IsToldOn old new
  told_on old mid new a b = record { mid = mid; answered = a; pieces = b }

  pub unordered : (old mid new : Hallful D) (session more : ℕ) (line : List ℕ) → session ≡ 0 → IsPassed old mid session more → IsUnordered mid new
      → IsForgotten old new session more line
  unordered old mid new session more line none a b = record {
    mid = mid;
    is_passed = a;
    is_unheard = subst (λ (x : Bool). IsUnheardAs x mid new session line) (sym (ap (λ (n : ℕ). n == 0) none)) b;
  }

  pub unheard : (old mid new : Hallful D) (session more : ℕ) (line : List ℕ) → (session ≡ 0 → ⊥) → IsPassed old mid session more
      → IsUnheard mid new session line → IsForgotten old new session more line
  unheard old mid new session more line other a b = record {
    mid = mid;
    is_passed = a;
    is_unheard = subst (λ (x : Bool). IsUnheardAs x mid new session line) (sym (not_zero session other)) b;
  }

  pub apart : (closes : Bool) (old mid new : Hallful D) (one : Said) (goes : Bool) → IsTaken old mid one goes → IsWordClosed closes mid new
      → IsTakenApart closes old new one goes
  apart closes old mid new one goes a b = record { mid = mid; taken = a; answered = b }

  pub one_apart : {E : Type 0} (closes : Bool) (old first new : Hallful D) (one : Said) (r : Result Bool E) → is_apart one.line.items ≡ true
      → IsAnswered old first → IfOk r (IsTakenApart closes first new one) → IfOk r (IsOne closes old new one)
  one_apart closes old first new one (Ok goes) is a b =
      subst (λ (x : Bool). IsOneBy x closes old new one goes) (sym is) (record { first = first; ahead = a; apart = b })
  one_apart closes old first new one (Err e) is a b = tt

  pub one_plain : {E : Type 0} (closes : Bool) (old new : Hallful D) (one : Said) (r : Result Bool E) → is_apart one.line.items ≡ false
      → IfOk r (IsTaken old new one) → IfOk r (IsOne closes old new one)
  one_plain closes old new one (Ok goes) is a = subst (λ (x : Bool). IsOneBy x closes old new one goes) (sym is) a
  one_plain closes old new one (Err e) is a = tt

  -- ---- groups

  pub none_taken : (closes : Bool) (hall : Hallful D) → AreTaken closes hall [] hall true
  none_taken closes hall = (refl, refl)

  taken_on : (closes : Bool) (old mid new : Hallful D) (said : List Said) (one : Said) (goes more : Bool) → AreTaken closes old said mid goes
      → IsOne closes mid new one more → AreTaken closes old (said ++ one ∷ []) new (goes && more)
  taken_on closes old mid new [] one goes more a b = (
    new,
    more,
    true,
    subst (λ (h : Hallful D). IsOne closes h new one more) a.0 b,
    (refl, refl),
    ap (λ (x : Bool). x && more) a.1 ∙ sym (true_and more) ∙ sym (and-true more),
  )
  taken_on closes old mid new (x ∷ said) one goes more a b = (
    a.0,
    a.1,
    a.2 && more,
    a.3,
    taken_on closes a.0 mid new said one a.2 more a.4 b,
    ap (λ (x : Bool). x && more) a.5 ∙ and_assoc a.1 a.2 more,
  )

  pub taken_more : (closes : Bool) (old mid new : Hallful D) (said : List Said) (i : ℕ) (one : Said) (goes more both : Bool)
      → AreTaken closes old (take i said) mid goes → i < length said → IsOne closes mid new one more → one ≡ get_or said i one
      → both ≡ (goes && more) → AreTaken closes old (take (i + 1) said) new both
  taken_more closes old mid new said i one goes more both a in_range b here is =
      let longer : take (i + 1) said ≡ take i said ++ one ∷ [] =
      take_more said i one in_range ∙ ap (λ (x : Said). take i said ++ x ∷ []) (sym here) in
      subst (λ (l : List Said). AreTaken closes old l new both) (sym longer)
      (subst (λ (x : Bool). AreTaken closes old (take i said ++ one ∷ []) new x) (sym is)
      (taken_on closes old mid new (take i said) one goes more a b))

  pub is_group : (closes : Bool) (old mid new : Hallful D) (said : List Said) (i : ℕ) (goes : Bool) → AreTaken closes old (take i said) mid goes
      → length said ≤ i → IsToldOn mid new → IsGroup closes old said new goes
  is_group closes old mid new said i goes a over b = record {
    mid = mid;
    taken = subst (λ (l : List Said). AreTaken closes old l mid goes) (take_all i said over) a;
    answered = b;
  }

  -- ---- a service

  pub hall_over : (flights : List Flown) (serving s : Served D) (today epoch day : ℕ) (desks : List Desk) (manager : Desk) (hall : Hallful D)
      → (hall.flights ≡ flights) × (hall.serving ≡ s) × (hall.today ≡ day) × (hall.desks ≡ desks) × (hall.manager ≡ manager)
      → (hall.asked ≡ []) × (hall.turns ≡ []) → hall.backlogs ≡ replicate 9 None → s ≡ serving → day ≡ today → length desks ≡ 8 → IsSilentAt epoch hall.manager
      → All (IsSilentAt epoch) hall.desks → IsHallOver flights serving today epoch hall
  hall_over flights serving s today epoch day desks manager hall parts none behind same on eight quiet silent = record {
    flights_are = parts.0;
    serving_is = parts.1 ∙ same;
    today_is = parts.2 ∙ on;
    none_asked = none.0;
    none_told = none.1;
    none_behind = behind;
    eight = ap length parts.3 ∙ eight;
    manager = quiet;
    silent = silent;
  }

  pub no_groups : (closes : Bool) (hall : Hallful D) → GoesThrough closes hall hall
  no_groups closes hall = record { groups = []; are = refl }

  groups_on : (closes : Bool) (old mid new : Hallful D) (groups : List (List Said)) (said : List Said) → AreGroups closes old groups mid
      → IsGroup closes mid said new true → AreGroups closes old (groups ++ said ∷ []) new
  groups_on closes old mid new [] said a b = (new, subst (λ (h : Hallful D). IsGroup closes h said new true) a b, refl)
  groups_on closes old mid new (x ∷ groups) said a b = (a.0, a.1, groups_on closes a.0 mid new groups said a.2 b)

  pub group_more : (closes : Bool) (old mid new : Hallful D) (said : List Said) (goes : Bool) → GoesThrough closes old mid
      → IsGroup closes mid said new goes → goes ≡ true → GoesThrough closes old new
  group_more closes old mid new said goes a b is =
      let on : IsGroup closes mid said new true = subst (IsGroup closes mid said new) is b in
      record { groups = a.groups ++ said ∷ []; are = groups_on closes old mid new a.groups said a.are on }

  pub is_served : (closes : Bool) (old mid new : Hallful D) (said : List Said) (goes : Bool) → GoesThrough closes old mid
      → IsGroup closes mid said new goes → goes ≡ false → IsServed closes old new
  is_served closes old mid new said goes a b is = record { mid = mid; goes = a; last = said; ends = subst (IsGroup closes mid said new) is b }

  pub served_to : (closes : Bool) (flights : List Flown) (serving s : Served D) (today epoch : ℕ) (old new : Hallful D) (journal : List Entry)
      → IsHallOver flights serving today epoch old → IsServed closes old new → s ≡ new.serving → journal ≡ s.journal
      → IsServedTo closes flights serving today epoch journal
  served_to closes flights serving s today epoch old new journal over served same is = record {
    old = old;
    new = new;
    over = over;
    served = served;
    journal_is = is ∙ ap (λ (x : Served D). x.journal) same;
  }
