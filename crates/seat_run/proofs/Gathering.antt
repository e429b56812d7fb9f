-- What the sessions booked behind the past is a history of their lists.
use Rattle.std.proofs.Common.{◌≡◌, ◌≢◌, ⊎_elim, Some, ◌-◌, ℕ, zero, suc, ◌+◌, ◌<◌, ◌≤◌, List, [], ◌∷◌, ◌++◌, length, take, map, refl, sym, ap, ◌∙◌, subst, arith, get_or, length-append, append_assoc}
use Rattle.std.specs.List.{AllByRecursion, AllZip}
use Rattle.std.specs.Prelude.{slice_get}
use Rattle.std.specs.Option.{option_map}
use Rattle.std.proofs.lemmas.Option.{get_or_from_slice_get, slice_get_within}
use Rattle.std.proofs.lemmas.List.Sums.{sum_by-cons}
use Rattle.std.proofs.lemmas.List.{append-nil, length-map, take_all, take-append-le, take_more, map_push}
use Rattle.seat_journal.specs.declared.entry.Control.{Control}
use Rattle.seat_journal.specs.declared.entry.Command.{Command}
use Rattle.seat_journal.specs.declared.entry.Entry.{Entry}
use Rattle.seat_journal.specs.declared.entry.Work.{Work}
use Rattle.seat_journal.specs.declared.entry.Work.TheVariants.{Seats}
use Rattle.seat_nesting.specs.Nesting.{Ladders}
use Rattle.seat_rules.specs.Prefixes.{Begins}
use Rattle.seat_rules.specs.declared.totals.Totals.{Totals}
use Rattle.seat_rules.specs.Totals.{totals_of}
use Rattle.seat_rules.specs.Histories.{OnlyFirst, of_session, by_session}
use Rattle.seat_host.proofs.Agreeing.{lists_count}
use Rattle.seat_rules.proofs.Own.{calls_own, own_append}
use Rattle.seat_rules.specs.Journal.{IsLegal, calls_of}
use Rattle.seat_host.specs.Sessions.{Seat, seated, seated_sessions}
use Rattle.logbook.specs.Pages.{Book}
use Rattle.seat_host.specs.Settling.{IsConfirmed}
use Rattle.seat_rules.specs.Headline.{Headline}
use Rattle.seat_desk.specs.AuditDesk.{most_lines}
use Rattle.seat_rules.specs.Agreement.{receipts_in}
use Rattle.seat_workers.specs.Working.{AllHaveBegun, AllHaveRun, HasRun, IsRefused, NamesFirst, works_of}
use Rattle.line_booking.specs.declared.booking.BookFault.{BookFault}
use Rattle.line_booking.specs.declared.booking.BookFault.TheVariants.{JournalFull as Full, Memory as NoRoom}
use Rattle.seat_workers.specs.declared.workers.RunFault.{RunFault}
use Rattle.seat_desk.specs.declared.fault.DeskFault.{DeskFault}
use Rattle.seat_desk.specs.declared.fault.DeskFault.TheVariants.{Memory}
use Rattle.seat_replies.specs.RunDesk.{asked_in, IsBookedTo, IsFull, IsHistoryOf, IsUnbooked, works_in}
use Rattle.seat_run.specs.Refusing.{call_refusal, run_refusal}
use Rattle.seat_replies.proofs.Rows.{all_of, row_at, row_count}

-- the manager and n sessions that go on from the past
abbrev all_seated : List Entry → ℕ → List Seat
all_seated past n = seated 0 past ∷ seated_sessions n past

seat_at : (past : List Entry) (n i : ℕ) (d : Seat) → i < suc n → get_or (all_seated past n) i d ≡ seated i past
seat_at past n i d lt = row_at (λ k. seated k past) (λ k. all_seated past k) refl (λ k. refl) n i d lt

seat_count : (past : List Entry) (n : ℕ) → length (all_seated past n) ≡ suc n
seat_count past n = row_count (λ k. seated k past) (λ k. all_seated past k) refl (λ k. refl) n

pub as_many : (past : List Entry) (n : ℕ) (lists : List (List Command)) (sessions : List Seat)
    → sessions ≡ seated_sessions n past → length lists ≡ n → length lists ≡ length sessions
as_many past n lists sessions opened count = let fewer : length (seated_sessions n past) ≡ n = omega (arith, seat_count past n) in count ∙ (sym fewer ∙ ap length (sym opened))

run_at : (lists : List (List Work)) (olds news : List Seat) (i : ℕ) (d e : Seat) → AllHaveRun lists olds news
    → length lists ≡ length olds → i < length lists
    → HasRun (get_or lists i []) (get_or olds i d) (get_or news i e) × (i < length news)
run_at [] olds news i d e run same lt = absurd (omega (arith, lt))
run_at (l ∷ lists) [] news i d e run same lt = absurd (omega (arith, same))
run_at (l ∷ lists) (s ∷ olds) [] i d e run same lt = absurd run
run_at (l ∷ lists) (s ∷ olds) (t ∷ news) zero d e run same lt = (run.0, omega arith)
run_at (l ∷ lists) (s ∷ olds) (t ∷ news) (suc i) d e run same lt =
    let below = run_at lists olds news i d e run.1 (omega (arith, same)) (omega (arith, lt)) in (below.0, omega (arith, below.1))

same_rest : (xs ys zs : List Entry) → xs ++ ys ≡ xs ++ zs → ys ≡ zs
same_rest [] ys zs e = e
same_rest (x ∷ xs) ys zs e = same_rest xs ys zs (cc e)

-- a session that ran from the past has its list behind the past in the journal
own_list : (n i : ℕ) (past added : List Entry) (list : List Work) (t : Seat) → HasRun list (seated i past) t
    → IsConfirmed n (past ++ added) t → works_in (of_session i added) ≡ list
own_list n i past added list t run confirmed =
    let all : of_session i past ++ run.lines ≡ of_session i past ++ of_session i added =
    sym run.receipts ∙ (confirmed.lines ∙ (ap (λ (k : ℕ). of_session k (past ++ added)) run.id ∙ own_append i past added)) in
    ap works_in (sym (same_rest (of_session i past) run.lines (of_session i added) all)) ∙ run.works

-- the journal begins with the past, which the manager has seen
record GoesOn (past journal : List Entry) : Type 0 where
  added : List Entry
  is : journal ≡ past ++ added

goes_on : (past journal : List Entry) (n : ℕ) (list : List Work) (t : Seat) → HasRun list (seated 0 past) t
    → IsConfirmed n journal t → GoesOn past journal
goes_on past journal n list t run confirmed =
    let seen : t.front ≡ past ++ run.before.rest = run.before.is in
    let shown = confirmed.front in
    record {
      added = run.before.rest ++ shown.rest;
      is = shown.is ∙ (ap (λ (l : List Entry). l ++ shown.rest) seen ∙ append_assoc past run.before.rest shown.rest);
    }

module _ (n : ℕ) (lists : List (List Work)) (news : List Seat) (past added : List Entry) (count : length lists ≡ suc n)
    (run : AllHaveRun lists (all_seated past n) news) (confirmed : AllByRecursion (IsConfirmed n (past ++ added)) news) where
  list_at : (i : ℕ) → i < suc n → works_in (of_session i added) ≡ get_or lists i []
  list_at i lt =
      let nobody = seated 0 past in
      let here = run_at lists (all_seated past n) news i nobody nobody run (count ∙ sym (seat_count past n)) (omega (arith, lt, count)) in
      let from : get_or (all_seated past n) i nobody ≡ seated i past = seat_at past n i nobody lt in
      own_list n i past added (get_or lists i []) (get_or news i nobody)
      (subst (λ (s : Seat). HasRun (get_or lists i []) s (get_or news i nobody)) from here.0)
      (all_of (IsConfirmed n (past ++ added)) news confirmed i nobody here.1)

  one_more : (k : ℕ) → k < suc n → take (suc k) lists ≡ take k lists ++ get_or lists k [] ∷ []
  one_more k lt =
      let within : k < length lists = omega (arith, lt, count) in
      let up : k + 1 ≡ suc k = omega arith in
      subst (λ (j : ℕ). take j lists ≡ take k lists ++ get_or lists k [] ∷ []) up (take_more lists k [] within)

  lists_to : (k : ℕ) → k ≤ n → map works_in (by_session k added) ≡ take (suc k) lists
  lists_to zero le = ap (λ (x : List Work). x ∷ []) (list_at 0 (omega arith)) ∙ sym (one_more 0 (omega arith))
  lists_to (suc k) le =
      map_push works_in (by_session k added) (of_session (suc k) added)
      ∙ (ap (λ (l : List (List Work)). l ++ works_in (of_session (suc k) added) ∷ []) (lists_to k (omega (arith, le)))
      ∙ (ap (λ (x : List Work). take (suc k) lists ++ x ∷ []) (list_at (suc k) (omega (arith, le))) ∙ sym (one_more (suc k) (omega (arith, le)))))

-- the headline, said of a journal and its receipts
of_journal : (grid : Ladders) (cap n most count : ℕ) (journal : List Entry) (receipts : List (List Entry))
    (totals : Totals) → cap ≡ most → n ≡ count
    → Headline grid cap n journal receipts totals → Headline grid most count journal receipts (totals_of journal)
of_journal grid cap n most count journal receipts totals cap_is count_is h =
    let summed = subst (λ (t : Totals). Headline grid cap n journal receipts t) h.totals_are h in
    let capped = subst (λ (c : ℕ). Headline grid c n journal receipts (totals_of journal)) cap_is summed in
    subst (λ (k : ℕ). Headline grid most k journal receipts (totals_of journal)) count_is capped

pub works_count : (changes : List Control) (lists : List (List Command))
    → length (works_of changes lists) ≡ suc (length lists)
works_count changes lists = ap suc (length-map lists (λ (list : List Command). map Seats list))

both_seated : (past : List Entry) (n : ℕ) (manager : Seat) (sessions : List Seat) → manager ≡ seated 0 past
    → sessions ≡ seated_sessions n past → manager ∷ sessions ≡ all_seated past n
both_seated past n manager sessions one others = ap (λ (m : Seat). m ∷ sessions) one ∙ ap (λ (l : List Seat). seated 0 past ∷ l) others

first_run : (past journal : List Entry) (n : ℕ) (list : List Work) (lists : List (List Work))
    (sessions news : List Seat)
    → AllHaveRun (list ∷ lists) (seated 0 past ∷ sessions) news → AllByRecursion (IsConfirmed n journal) news
    → GoesOn past journal
first_run past journal n list lists sessions [] run confirmed = absurd run
first_run past journal n list lists sessions (t ∷ news) run confirmed = goes_on past journal n list t run.0 confirmed.0

pub settled_history : (grid : Ladders) (cap n : ℕ) (past : List Entry) (changes : List Control)
    (lists : List (List Command)) (manager : Seat) (sessions news : List Seat) (journal : List Entry)
    (receipts : List (List Entry)) (totals : Totals)
    → manager ≡ seated 0 past → sessions ≡ seated_sessions n past → length lists ≡ n
    → AllHaveRun (works_of changes lists) (manager ∷ sessions) news → AllByRecursion (IsConfirmed n journal) news
    → cap ≡ most_lines → Headline grid cap n journal receipts totals
    → IsHistoryOf grid past changes lists journal receipts
settled_history grid cap n past changes lists manager sessions news journal receipts totals begun opened count run confirmed most h =
    let works = works_of changes lists in
    let all : length works ≡ suc n = works_count changes lists ∙ ap suc count in
    let from = subst (λ (l : List Seat). AllHaveRun works l news) (both_seated past n manager sessions begun opened) run in
    let on = first_run past journal n _ _ _ news from confirmed in
    let confirmed_on = subst (λ (j : List Entry). AllByRecursion (IsConfirmed n j) news) on.is confirmed in
    record {
      headline = of_journal grid cap n most_lines (length lists) journal receipts totals most (sym count) h;
      added = on.added;
      goes_on = on.is;
      asked = subst (λ (k : ℕ). map works_in (by_session k on.added) ≡ works) (sym count)
          (lists_to n works news past on.added all from confirmed_on n (omega arith) ∙ take_all (suc n) works (omega (arith, all)));
    }

-- ---- refusals

-- the beginnings of the lists that were booked
record IsTaken (lists : List (List Work)) (olds news : List Seat) : Type 0 where
  taken : List (List Work)
  run : AllHaveRun taken olds news
  count : length taken ≡ length lists
  fewer : asked_in taken ≤ asked_in lists
  each : AllZip Begins taken lists

begun_length : (front list : List Work) → Begins front list → length front ≤ length list
begun_length front list b = omega (arith, ap length b.is, length-append front b.rest)

all_taken : (lists : List (List Work)) (olds news : List Seat) → length lists ≡ length olds
    → AllHaveBegun lists olds news → IsTaken lists olds news
all_taken [] olds [] same h = record { taken = []; run = h; count = refl; fewer = omega arith; each = tt }
all_taken [] olds (t ∷ news) same h = absurd h
all_taken (list ∷ lists) [] news same h = absurd (omega (arith, same))
all_taken (list ∷ lists) (s ∷ olds) [] same h = absurd h
all_taken (list ∷ lists) (s ∷ olds) (t ∷ news) same h =
    let rest = all_taken lists olds news (omega (arith, same)) h.1 in
    record {
      taken = h.0.booked ∷ rest.taken;
      run = (h.0.run, rest.run);
      count = ap suc rest.count;
      fewer = omega (arith, rest.fewer, begun_length h.0.booked list h.0.begins);
      each = (h.0.begins, rest.each);
    }

-- the same, where a call of the session at some place was refused: the lists before its own were booked whole
record IsStopped (grid : Ladders) (book : Book) (cap : ℕ) (fault : RunFault) (lists : List (List Work))
    (olds news : List Seat) : Type 0 where
  taken : List (List Work)
  run : AllHaveRun taken olds news
  count : length taken ≡ length lists
  fewer : asked_in taken + 1 ≤ asked_in lists
  each : AllZip Begins taken lists
  place : ℕ
  before : take place taken ≡ take place lists
  list : List Work
  old : Seat
  new : Seat
  of_lists : slice_get lists place ≡ Some list
  of_olds : slice_get olds place ≡ Some old
  refused : IsRefused grid book cap fault list old new
  of_taken : slice_get taken place ≡ Some refused.booked

whole : (list : List Work) → Begins list list
whole list = record { rest = []; is = sym (append-nil list) }

stopped : (grid : Ladders) (book : Book) (cap : ℕ) (fault : RunFault) (lists : List (List Work)) (olds news : List Seat)
    → length lists ≡ length olds → AllHaveBegun lists olds news
    → NamesFirst grid book cap fault lists olds news → IsStopped grid book cap fault lists olds news
stopped grid book cap fault [] olds news same h named = absurd named
stopped grid book cap fault (list ∷ lists) [] news same h named = absurd named
stopped grid book cap fault (list ∷ lists) (s ∷ olds) [] same h named = absurd named
stopped grid book cap fault (list ∷ lists) (s ∷ olds) (t ∷ news) same h named =
    ⊎_elim here (λ (later : HasRun list s t × NamesFirst grid book cap fault lists olds news). there later.0 (stopped grid book cap fault lists olds news (omega (arith, same)) h.1 later.1)) named where
      here : IsRefused grid book cap fault list s t → IsStopped grid book cap fault (list ∷ lists) (s ∷ olds) (t ∷ news)
      here r =
          let rest = all_taken lists olds news (omega (arith, same)) h.1 in
          let long : length list ≡ length r.booked + suc (length r.left) = ap length r.parts ∙ length-append r.booked (r.refused ∷ r.left) in
          record {
            taken = r.booked ∷ rest.taken;
            run = (r.run, rest.run);
            count = ap suc rest.count;
            fewer = omega (arith, rest.fewer, long);
            each = (record { rest = r.refused ∷ r.left; is = r.parts }, rest.each);
            place = 0;
            before = refl;
            list = list;
            old = s;
            new = t;
            of_lists = refl;
            of_olds = refl;
            refused = r;
            of_taken = refl;
          }

      there : HasRun list s t → IsStopped grid book cap fault lists olds news
          → IsStopped grid book cap fault (list ∷ lists) (s ∷ olds) (t ∷ news)
      there ran rest = record {
        taken = list ∷ rest.taken;
        run = (ran, rest.run);
        count = ap suc rest.count;
        fewer = omega (arith, rest.fewer);
        each = (whole list, rest.each);
        place = suc rest.place;
        before = ap (λ (l : List (List Work)). list ∷ l) rest.before;
        list = rest.list;
        old = rest.old;
        new = rest.new;
        of_lists = rest.of_lists;
        of_olds = rest.of_olds;
        refused = rest.refused;
        of_taken = rest.of_taken;
      }

full_of : (session call : ℕ) (why : BookFault) → call_refusal session call why ≢ Memory → why ≡ Full
full_of session call Full not = refl
full_of session call NoRoom not = absurd (not refl)

-- the journal in which a call was refused is full
is_full : (grid : Ladders) (book : Book) (cap n : ℕ) (fault : RunFault) (journal : List Entry)
    (lists : List (List Work)) (olds news : List Seat) → run_refusal fault ≢ Memory
    → NamesFirst grid book cap fault lists olds news
    → AllByRecursion (IsConfirmed n journal) news → cap ≤ length journal
is_full grid book cap n fault journal [] olds news not named confirmed = absurd named
is_full grid book cap n fault journal (list ∷ lists) [] news not named confirmed = absurd named
is_full grid book cap n fault journal (list ∷ lists) (s ∷ olds) [] not named confirmed = absurd named
is_full grid book cap n fault journal (list ∷ lists) (s ∷ olds) (t ∷ news) not named confirmed =
    ⊎_elim here (λ (later : HasRun list s t × NamesFirst grid book cap fault lists olds news). is_full grid book cap n fault journal lists olds news not later.1 confirmed.1) named where
      here : IsRefused grid book cap fault list s t → cap ≤ length journal
      here r =
          let why : fault.refusal.fault ≡ Full = full_of fault.session fault.call fault.refusal.fault not in
          let seen = confirmed.0.front in
          omega (arith, r.full why, ap length seen.is, length-append t.front seen.rest)

asked_map : {A B : Type 0} (f : A → B) (lists : List (List A)) → asked_in (map (map f) lists) ≡ asked_in lists
asked_map f [] = refl
asked_map f (list ∷ lists) = omega (arith, length-map list f, asked_map f lists)

receipts_are_asked : (lists : List (List Entry)) → receipts_in lists ≡ asked_in lists
receipts_are_asked [] = refl
receipts_are_asked (list ∷ lists) = omega (arith, sum_by-cons (λ (receipts : List Entry). length receipts) list lists, receipts_are_asked lists)

refusal_of : (grid : Ladders) (past : List Entry) (changes : List Control) (lists : List (List Command))
    (session call : ℕ) (why : BookFault) → IsFull grid past changes lists session call
    → call_refusal session call why ≢ Memory → IsUnbooked grid past changes lists (call_refusal session call why)
refusal_of grid past changes lists session call Full is not = is
refusal_of grid past changes lists session call NoRoom is not = absurd (not refl)

-- what stands before the work that was refused
front_of : (list booked left : List Work) (refused : Work) → list ≡ booked ++ refused ∷ left
    → take (length booked) list ≡ booked
front_of list booked left refused parts =
    ap (λ (l : List Work). take (length booked) l) parts ∙ (take-append-le (length booked) booked (refused ∷ left) (omega arith) ∙ take_all (length booked) booked (omega arith))

-- the lines of the past are no more than those of its sessions
legal_front : (grid : Ladders) (past added : List Entry) → IsLegal grid (past ++ added) → IsLegal grid past
legal_front grid past added legal =
    record { each = λ front e begins. legal.each front e (record { rest = begins.rest ++ added; is = ap (λ (l : List Entry). l ++ added) begins.is ∙ append_assoc (front ++ e ∷ []) begins.rest added }) }

only_front : (n : ℕ) (past added : List Entry) → OnlyFirst n (past ++ added) → OnlyFirst n past
only_front n past added only = record { none = λ s high. front_nil (of_session s past) (of_session s added) (sym (own_append s past added) ∙ only.none s high) } where
  front_nil : (xs ys : List Entry) → xs ++ ys ≡ [] → xs ≡ []
  front_nil [] ys e = refl
  front_nil (x ∷ xs) ys e = absurd cc

both_asked : (n : ℕ) (past added : List Entry)
    → asked_in (by_session n (past ++ added)) ≡ asked_in (by_session n past) + asked_in (by_session n added)
both_asked zero past added = omega (arith, ap length (own_append 0 past added), length-append (of_session 0 past) (of_session 0 added))
both_asked (suc n) past added =
    omega (
      arith,
      asked_push (by_session n (past ++ added)) (of_session (suc n) (past ++ added)),
      asked_push (by_session n past) (of_session (suc n) past),
      asked_push (by_session n added) (of_session (suc n) added),
      ap length (own_append (suc n) past added),
      length-append (of_session (suc n) past) (of_session (suc n) added),
      both_asked n past added,
    ) where
      asked_push : (xs : List (List Entry)) (x : List Entry) → asked_in (xs ++ x ∷ []) ≡ asked_in xs + length x
      asked_push [] x = omega arith
      asked_push (y ∷ xs) x = omega (arith, asked_push xs x)

module _ (grid : Ladders) (book : Book) (cap n : ℕ) (fault : RunFault) (past added : List Entry) (changes : List Control) (lists : List (List Command)) (olds news : List Seat) (receipts : List (List Entry)) (totals : Totals)
    (opened : olds ≡ all_seated past n) (count : length lists ≡ n) (confirmed : AllByRecursion (IsConfirmed n (past ++ added)) news) (most : cap ≡ most_lines)
    (h : Headline grid cap n (past ++ added) receipts totals) (t : IsStopped grid book cap fault (works_of changes lists) olds news) (full : cap ≤ length (past ++ added)) where
  own_lists : map works_in (by_session n added) ≡ t.taken
  own_lists =
      let as_all : length t.taken ≡ suc n = t.count ∙ (works_count changes lists ∙ ap suc count) in
      lists_to n t.taken news past added as_all (subst (λ (l : List Seat). AllHaveRun t.taken l news) opened t.run) confirmed n (omega arith) ∙ take_all (suc n) t.taken (omega (arith, as_all))

  -- where a call is refused, more is asked than a journal has lines behind the past
  too_many : most_lines < length past + asked_in (works_of changes lists)
  too_many =
      let booked : asked_in t.taken ≡ asked_in (by_session n added) = ap asked_in (sym own_lists) ∙ asked_map (λ (e : Entry). e.work) (by_session n added) in
      let all : asked_in (by_session n (past ++ added)) ≡ length (past ++ added) =
      sym (receipts_are_asked (by_session n (past ++ added))) ∙ (ap receipts_in (sym h.own) ∙ h.lines) in
      let before : asked_in (by_session n past) ≡ length past =
      sym (receipts_are_asked (by_session n past)) ∙ lists_count grid n past (by_session n past) (legal_front grid past added h.legal) (only_front n past added h.only) refl in
      omega (arith, t.fewer, booked, all, before, both_asked n past added, full, most)

  -- the session at the place of the refusal has that number, and as many calls as it had in the past and as were booked
  from_past : t.old ≡ seated t.place past
  from_past =
      let within : t.place < suc n = omega (arith, slice_get_within olds t.place t.old t.of_olds, ap (length {A = Seat}) opened, seat_count past n) in
      sym (get_or_from_slice_get olds t.place t.old (seated 0 past) t.of_olds) ∙ (ap (λ (l : List Seat). get_or l t.place (seated 0 past)) opened ∙ seat_at past n t.place (seated 0 past) within)

  place_is : t.new.id ≡ t.place
  place_is = t.refused.run.id ∙ ap (λ (s : Seat). s.id) from_past

  call_is : length t.new.receipts ≡ calls_of past t.new.id + length t.refused.booked
  call_is =
      let r = t.refused in
      let lines : t.new.receipts ≡ of_session t.place past ++ r.run.lines = r.run.receipts ∙ ap (λ (s : Seat). s.receipts ++ r.run.lines) from_past in
      let made : length r.run.lines ≡ length r.booked = sym (length-map r.run.lines (λ (e : Entry). e.work)) ∙ ap length r.run.works in
      let old : calls_of past t.new.id ≡ length (of_session t.place past) = ap (λ (k : ℕ). calls_of past k) place_is ∙ calls_own past t.place in
      omega (arith, ap length lines, length-append (of_session t.place past) r.run.lines, made, old)

  booked_to : IsBookedTo t.new.id (length t.new.receipts + 1 - calls_of past t.new.id) (works_of changes lists) t.taken
  booked_to =
      let fewer : length t.new.receipts + 1 - calls_of past t.new.id - 1 ≡ length t.refused.booked = omega (arith, call_is) in
      let front : take (length t.refused.booked) t.list ≡ t.refused.booked = front_of t.list t.refused.booked t.refused.left t.refused.refused t.refused.parts in
      let own : slice_get t.taken t.place ≡ option_map (take (length t.refused.booked)) (slice_get (works_of changes lists) t.place) =
      t.of_taken ∙ sym (ap (option_map (take (length t.refused.booked))) t.of_lists ∙ ap Some front) in
      record {
        before = subst (λ (k : ℕ). take k t.taken ≡ take k (works_of changes lists)) (sym place_is) t.before;
        own = subst (λ (k : ℕ). slice_get t.taken k ≡ option_map (take (length t.new.receipts + 1 - calls_of past t.new.id - 1)) (slice_get (works_of changes lists) k)) (sym place_is)
            (subst (λ (k : ℕ). slice_get t.taken t.place ≡ option_map (take k) (slice_get (works_of changes lists) t.place)) (sym fewer) own);
        each = t.each;
      }

  is_full_journal : IsFull grid past changes lists t.new.id (length t.new.receipts + 1)
  is_full_journal =
      let long : length t.list ≡ length t.refused.booked + suc (length t.refused.left) = ap length t.refused.parts ∙ length-append t.refused.booked (t.refused.refused ∷ t.refused.left) in
      record {
        many = too_many;
        list = t.list;
        at = subst (λ (k : ℕ). slice_get (works_of changes lists) k ≡ Some t.list) (sym place_is) t.of_lists;
        call_is = (omega (arith, call_is), omega (arith, call_is, long));
        history = past ++ added;
        receipts = receipts;
        headline = of_journal grid cap n most_lines (length lists) (past ++ added) receipts totals most (sym count) h;
        full = omega (arith, full, most, h.capped);
        added = added;
        goes_on = refl;
        booked = subst (IsBookedTo t.new.id (length t.new.receipts + 1 - calls_of past t.new.id) (works_of changes lists))
            (sym own_lists ∙ ap (λ (k : ℕ). map works_in (by_session k added)) (sym count)) booked_to;
      }

first_begun : (past journal : List Entry) (n : ℕ) (list : List Work) (lists : List (List Work))
    (sessions news : List Seat)
    → AllHaveBegun (list ∷ lists) (seated 0 past ∷ sessions) news → AllByRecursion (IsConfirmed n journal) news
    → GoesOn past journal
first_begun past journal n list lists sessions [] begun confirmed = absurd begun
first_begun past journal n list lists sessions (t ∷ news) begun confirmed = goes_on past journal n begun.0.booked t begun.0.run confirmed.0

-- the fault of such a run
pub refused_run : (grid : Ladders) (book : Book) (cap n : ℕ) (fault : RunFault) (past : List Entry)
    (changes : List Control) (lists : List (List Command)) (manager : Seat) (sessions news : List Seat)
    (journal : List Entry) (receipts : List (List Entry)) (totals : Totals) (f : DeskFault)
    → f ≡ run_refusal fault → manager ≡ seated 0 past → sessions ≡ seated_sessions n past → length lists ≡ n
    → AllHaveBegun (works_of changes lists) (manager ∷ sessions) news
    → NamesFirst grid book cap fault (works_of changes lists) (manager ∷ sessions) news
    → AllByRecursion (IsConfirmed n journal) news → cap ≡ most_lines → Headline grid cap n journal receipts totals
    → f ≢ Memory → IsUnbooked grid past changes lists f
refused_run grid book cap n fault past changes lists manager sessions news journal receipts totals f is one others count begun named confirmed most h =
    subst (λ (x : DeskFault). x ≢ Memory → IsUnbooked grid past changes lists x) (sym is) refused where
      opened : manager ∷ sessions ≡ all_seated past n
      opened = both_seated past n manager sessions one others

      on : GoesOn past journal
      on = first_begun past journal n _ _ _ news (subst (λ (l : List Seat). AllHaveBegun (works_of changes lists) l news) opened begun) confirmed

      refused : run_refusal fault ≢ Memory → IsUnbooked grid past changes lists (run_refusal fault)
      refused not =
          let works = works_of changes lists in
          let same : length works ≡ length (manager ∷ sessions) = works_count changes lists ∙ (ap suc count ∙ (sym (seat_count past n) ∙ ap length (sym opened))) in
          let t = stopped grid book cap fault works (manager ∷ sessions) news same begun named in
          let full = is_full grid book cap n fault journal works (manager ∷ sessions) news not named confirmed in
          let all = is_full_journal grid book cap n fault past on.added changes lists (manager ∷ sessions) news receipts totals opened count
          (subst (λ (j : List Entry). AllByRecursion (IsConfirmed n j) news) on.is confirmed) most
          (subst (λ (j : List Entry). Headline grid cap n j receipts totals) on.is h) t (subst (λ (j : List Entry). cap ≤ length j) on.is full) in
          let named_call : IsFull grid past changes lists fault.session fault.call =
          subst (λ (k : ℕ). IsFull grid past changes lists k fault.call) (sym t.refused.session) (subst (IsFull grid past changes lists t.new.id) (sym t.refused.call) all) in
          refusal_of grid past changes lists fault.session fault.call fault.refusal.fault named_call not

-- the same of the commands that scripts ask
pub unbooked : (grid : Ladders) (past : List Entry) (changes : List Control) (asked lists : List (List Command))
    (fault : DeskFault) → lists ≡ asked
    → IsUnbooked grid past changes lists fault → IsUnbooked grid past changes asked fault
unbooked grid past changes asked lists fault is has = subst (λ (l : List (List Command)). IsUnbooked grid past changes l fault) is has
