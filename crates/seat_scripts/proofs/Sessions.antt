-- The replies to lines that were added, session by session.
use Rattle.std.proofs.Common.{◌≡◌, ◌≢◌, ℕ, zero, suc, ◌+◌, ◌-◌, ◌<◌, ◌≤◌, ◌==◌, Bool, true, false, List, [], ◌∷◌, ◌++◌, length, take, drop, get_or, refl, sym, ap, ◌∙◌, subst, arith, Option, Some, None}
use Rattle.seat_scripts.proofs.Common.{slice_get, option_map, AllByRecursion, Request, Ladders, Entry, Work, Seats, IsLegal, by_session, of_session, done_by}
use Rattle.std.specs.Prelude.{IsTrue, not, unwrap_or}
use Rattle.std.proofs.Math.Dec.{leb-zero}
use Rattle.std.proofs.Math.Seq.{drop-cons}
use Rattle.std.proofs.lemmas.List.{append-nil, length-append, take-append-drop, take_all, take_more}
use Rattle.std.proofs.lemmas.Option.{get_or_from_slice_get, slice_get-get_or, slice_get-map, slice_get_within}
use Rattle.ssim_flights.specs.declared.flight.Flight.{Flight as Flown}
use Rattle.seat_journal.specs.declared.entry.Work.TheVariants.{Limit, Sale}
use Rattle.seat_rules.specs.Journal.{MayAsk, calls_of}
use Rattle.seat_rules.proofs.History.Faults.{nat_same}
use Rattle.seat_rules.proofs.History.Legal.{each_legal}
use Rattle.seat_rules.proofs.Own.{calls_own, own_append, own_one, own_other}
use Rattle.seat_desk.specs.FlightsDesk.{IsPut, IsText}
use Rattle.seat_desk.specs.Loading.{IsGridOf}
use Rattle.seat_desk.proofs.Texts.{put_more, text_whole}
use Rattle.seat_scripts.specs.Against.{AreAsked, IsParted}
use Rattle.seat_scripts.specs.Replying.{AreRepliesBehind, AreWanted, AreWantedSessions, IsWantedAnswer, all_wanted}
use Rattle.seat_scripts.specs.declared.by_session.Wanted.{Wanted}
use Rattle.seat_replies.specs.Answering.{AreAllAnswerable, AreAnswerable, AreBooked, IsAnswerable, IsBehind, IsRequested}
use Rattle.seat_replies.specs.RunDesk.{AreReplies, AreSessions, IsAnswer, requests_of}
use Rattle.seat_replies.specs.VeryRequest.{Agree}
use Rattle.seat_replies.proofs.Advised.{all_push}
use Rattle.seat_replies.proofs.Going.{lines_at, sessions_count}
use Rattle.seat_replies.proofs.Histories.{lines_booked}
use Rattle.seat_replies.proofs.Rows.{all_kept, each_at}

-- ---- what a session is asked, by its script where it has one

pub managed : (scripts : List (List Request)) (session : ℕ) → session ≡ 0 → [] ≡ requests_of scripts session
managed scripts session is = ap (requests_of scripts) (sym is)

pub scripted : (scripts : List (List Request)) (session : ℕ) (script slice : List Request) → 1 ≤ session
    → slice_get scripts (session - 1) ≡ Some script → slice ≡ script → slice ≡ requests_of scripts session
scripted scripts zero script slice low at same = absurd (omega (arith, low))
scripted scripts (suc i) script slice low at same =
    let is : suc i - 1 ≡ i = omega arith in
    let here : slice_get scripts i ≡ Some script = subst (λ (k : ℕ). slice_get scripts k ≡ Some script) is at in
    same ∙ sym (ap (λ (o : Option (List Request)). unwrap_or o []) here)

pub unscripted : (scripts : List (List Request)) (session : ℕ) → 1 ≤ session → slice_get scripts (session - 1) ≡ None
    → [] ≡ requests_of scripts session
unscripted scripts zero low at = absurd (omega (arith, low))
unscripted scripts (suc i) low at =
    let is : suc i - 1 ≡ i = omega arith in
    let here : slice_get scripts i ≡ None = subst (λ (k : ℕ). slice_get scripts k ≡ None) is at in
    sym (ap (λ (o : Option (List Request)). unwrap_or o []) here)

-- ---- lines that are asked can be answered

all_may : (grid : Ladders) (journal : List Entry) → IsLegal grid journal
    → AllByRecursion (λ (e : Entry). MayAsk e.session e.work) journal
all_may grid journal legal =
    each_legal grid (λ (j : List Entry). AllByRecursion (λ (e : Entry). MayAsk e.session e.work) j)
    (λ past e l next h. all_push (λ (x : Entry). MayAsk x.session x.work) past e h next.session) [] journal tt legal

own_sessions : (s : ℕ) (lines : List Entry) → AllByRecursion (λ (e : Entry). e.session ≡ s) (of_session s lines)
own_sessions s [] = tt
own_sessions s (x ∷ lines) = cases (x.session == s) refl (own_sessions s lines) where
  cases : (t : Bool) → (x.session == s) ≡ t → AllByRecursion (λ (e : Entry). e.session ≡ s) (of_session s lines)
      → AllByRecursion (λ (e : Entry). e.session ≡ s) (of_session s (x ∷ lines))
  cases true e rest = rw e (nat_same x.session s e, rest)
  cases false e rest = rw e rest

second : (P : Entry → Type 0) (xs ys : List Entry) → AllByRecursion P (xs ++ ys) → AllByRecursion P ys
second P [] ys all = all
second P (x ∷ xs) ys all = second P xs ys all.1

module _ (flights : List Flown) (grid : Ladders) (scripts : List (List Request)) (past added journal : List Entry) (whole : journal ≡ past ++ added)
    (of_grid : IsGridOf flights grid) (legal : IsLegal grid journal) (asked : AreAsked flights scripts added) where
  may : AllByRecursion (λ (e : Entry). MayAsk e.session e.work) added
  may = second (λ (e : Entry). MayAsk e.session e.work) past added (subst (AllByRecursion (λ (e : Entry). MayAsk e.session e.work)) whole (all_may grid journal legal))

  work_at : (s k : ℕ) (e : Entry) → slice_get (of_session s added) k ≡ Some e → slice_get (done_by s added) k ≡ Some e.work
  work_at s k e at = slice_get-map (λ (x : Entry). x.work) (of_session s added) k ∙ ap (option_map (λ (x : Entry). x.work)) at

  none_over : (requests : List Request) (k : ℕ) (w : Work) → Agree flights (slice_get requests k) (Some w) → k < length requests
  none_over requests k w agree = cases (slice_get requests k) refl agree where
    cases : (o : Option Request) → slice_get requests k ≡ o → Agree flights o (Some w) → k < length requests
    cases None at bad = absurd bad
    cases (Some r) at good = slice_get_within requests k r at

  is_asked : (s k : ℕ) (e : Entry) → slice_get (of_session s added) k ≡ Some e → (w : Work) → e.work ≡ w
      → IsRequested (requests_of scripts s) k w
  is_asked zero k e at (Seats c) work =
      let own : e.session ≡ 0 = each_at (λ (x : Entry). x.session ≡ 0) (of_session 0 added) k e (own_sessions 0 added) at in
      let allowed : MayAsk e.session e.work = each_at (λ (x : Entry). MayAsk x.session x.work) (of_session 0 added) k e
      (all_kept (λ (x : Entry). MayAsk x.session x.work) (λ (x : Entry). x.session == 0) added may) at in
      let bad : MayAsk e.session (Seats c) = subst (MayAsk e.session) work allowed in
      absurd (omega (arith, own, bad.0))
  is_asked (suc i) k e at (Seats c) work =
      let agree : Agree flights (slice_get (requests_of scripts (suc i)) k) (slice_get (done_by (suc i) added) k) = (asked.each (suc i) (omega arith)).each k in
      none_over (requests_of scripts (suc i)) k e.work (subst (λ (o : Option Work). Agree flights (slice_get (requests_of scripts (suc i)) k) o) (work_at (suc i) k e at) agree)
  is_asked s k e at (Limit c) work = tt
  is_asked s k e at (Sale c) work = tt

  lines_of : (s : ℕ) → AreAnswerable flights (requests_of scripts s) journal (of_session s added)
  lines_of s = record {
    each = λ k e at. record {
      asked = is_asked s k e at e.work refl;
      advised = each_at (λ (x : Entry). AreBooked flights journal x.advices) (of_session s added) k e
          (all_kept (λ (x : Entry). AreBooked flights journal x.advices) (λ (x : Entry). x.session == s) added (lines_booked flights grid past added journal of_grid whole legal)) at;
    };
  }

  pub added_answerable : AreAllAnswerable flights scripts journal (by_session (length scripts) added)
  added_answerable = record { each = of_lines } where
    of_lines : (s : ℕ) (lines : List Entry) → slice_get (by_session (length scripts) added) s ≡ Some lines
        → AreAnswerable flights (requests_of scripts s) journal lines
    of_lines s lines there =
        let low : s < suc (length scripts) = omega (arith, slice_get_within (by_session (length scripts) added) s lines there, sessions_count (length scripts) added) in
        let own : lines ≡ of_session s added = sym (get_or_from_slice_get (by_session (length scripts) added) s lines [] there) ∙ lines_at (length scripts) s added low in
        subst (λ (l : List Entry). AreAnswerable flights (requests_of scripts s) journal l) (sym own) (lines_of s)

-- ---- session by session

-- the lines of each session stand in their list
pub session_there : (n s : ℕ) (added : List Entry) → s < n + 1
    → slice_get (by_session n added) s ≡ Some (of_session s added)
session_there n s added low =
    slice_get-get_or (by_session n added) s [] (omega (arith, low, sessions_count n added)) ∙ ap Some (lines_at n s added (omega (arith, low)))

pub session_answerable_of : (flights : List Flown) (scripts : List (List Request)) (journal added : List Entry) (s : ℕ)
    → AreAllAnswerable flights scripts journal (by_session (length scripts) added) → s < length scripts + 1
    → AreAnswerable flights (requests_of scripts s) journal (of_session s added)
session_answerable_of flights scripts journal added s all low = all.each s (of_session s added) (session_there (length scripts) s added low)

pub session_more : (wanted : Wanted) (flights : List Flown) (scripts : List (List Request)) (journal added : List Entry) (s : ℕ)
    (mid new : List ℕ)
    → IsPut (AreWantedSessions wanted flights scripts journal) 0 (take s (by_session (length scripts) added)) [] mid
    → s < length scripts + 1 → IsPut (IsWantedAnswer wanted flights (requests_of scripts s) journal) 0 (of_session s added) mid new
    → IsPut (AreWantedSessions wanted flights scripts journal) 0 (take (s + 1) (by_session (length scripts) added)) [] new
session_more wanted flights scripts journal added s mid new put low part =
    let rows : List (List Entry) = by_session (length scripts) added in
    let at : of_session s added ≡ get_or rows s (of_session s added) = sym (get_or_from_slice_get rows s (of_session s added) (of_session s added) (session_there (length scripts) s added low)) in
    let same : s ≡ 0 + s = omega arith in
    put_more (AreWantedSessions wanted flights scripts journal) 0 s rows (of_session s added) [] mid new part.part put
    (omega (arith, low, sessions_count (length scripts) added)) at
    (subst (λ (k : ℕ). AreWantedSessions wanted flights scripts journal k (of_session s added) part.part) same part.is_text) part.written

pub sessions_all : (wanted : Wanted) (flights : List Flown) (scripts : List (List Request)) (journal added : List Entry) (s : ℕ)
    (new : List ℕ)
    → IsPut (AreWantedSessions wanted flights scripts journal) 0 (take s (by_session (length scripts) added)) [] new
    → length scripts + 1 ≤ s → IsText (AreWantedSessions wanted flights scripts journal) 0 (by_session (length scripts) added) new
sessions_all wanted flights scripts journal added s new put over =
    text_whole (AreWantedSessions wanted flights scripts journal) 0 s (length scripts + 1) (by_session (length scripts) added) new put
    (omega (arith, sessions_count (length scripts) added)) over

-- the replies to the lines behind a past
pub replied_behind : (wanted : Wanted) (flights : List Flown) (scripts : List (List Request)) (older : List Entry) (more past : ℕ)
    (journal slice added : List Entry) (text : List ℕ)
    → slice ≡ journal → added ≡ drop past journal
    → IsParted older more (take past journal) (drop past journal) journal → AreAsked flights scripts (drop past journal)
    → IsText (AreWantedSessions wanted flights scripts slice) 0 (by_session (length scripts) added) text
    → AreRepliesBehind flights scripts older more journal wanted text
replied_behind wanted flights scripts older more past journal slice added text same own parted asked said = record {
  past = take past journal;
  added = drop past journal;
  parted = parted;
  are_asked = asked;
  are_replies = subst (λ (l : List Entry). IsText (AreWantedSessions wanted flights scripts l) 0 (by_session (length scripts) (drop past journal)) text) (same ∙ parted.whole)
      (subst (λ (l : List Entry). IsText (AreWantedSessions wanted flights scripts slice) 0 (by_session (length scripts) l) text) own said);
}

-- ---- line by line

-- so many lines of the session stand in the front, and are answered
pub record AnsweredSoFar (wanted : Wanted) (flights : List Flown) (requests : List Request) (journal : List Entry) (session place : ℕ)
    (front : List Entry) (old new : List ℕ) : Type 0 where
  pub count : place ≡ length (of_session session front)
  pub few : place ≤ length front
  pub put : IsPut (IsWantedAnswer wanted flights requests journal) 0 (of_session session front) old new

pub none_answered : (wanted : Wanted) (flights : List Flown) (requests : List Request) (journal : List Entry) (session : ℕ)
    (text : List ℕ) → AnsweredSoFar wanted flights requests journal session 0 [] text text
none_answered wanted flights requests journal session text = record {
  count = refl;
  few = omega arith;
  put = record { part = []; is_text = refl; written = sym (append-nil text) };
}

module _ (wanted : Wanted) (flights : List Flown) (requests : List Request) (journal : List Entry) (session place : ℕ) (lines : List Entry) (i : ℕ) (e : Entry) (old mid : List ℕ)
    (lt : i < length lines) (is : e ≡ get_or lines i e) (so_far : AnsweredSoFar wanted flights requests journal session place (take i lines) old mid) where
  front : List Entry
  front = of_session session (take i lines)

  one_more : take (i + 1) lines ≡ take i lines ++ e ∷ []
  one_more = take_more lines i e lt ∙ ap (λ (x : Entry). take i lines ++ x ∷ []) (sym is)

  longer : (xs : List Entry) → length (xs ++ e ∷ []) ≡ length xs + 1
  longer xs = length-append xs (e ∷ [])

  pub answered_other : e.session ≢ session → AnsweredSoFar wanted flights requests journal session place (take (i + 1) lines) old mid
  answered_other not =
      let same : of_session session (take (i + 1) lines) ≡ of_session session (take i lines) =
      ap (of_session session) one_more ∙ (own_append session (take i lines) (e ∷ []) ∙ (ap (λ (l : List Entry). of_session session (take i lines) ++ l) (own_other session e not) ∙ append-nil (of_session session (take i lines)))) in
      record {
        count = so_far.count ∙ sym (ap length same);
        few = omega (arith, so_far.few, ap length one_more, longer (take i lines));
        put = subst (λ (l : List Entry). IsPut (IsWantedAnswer wanted flights requests journal) 0 l old mid) (sym same) so_far.put;
      }

  module _ (own : e.session ≡ session) where
    grown : of_session session (take (i + 1) lines) ≡ of_session session (take i lines) ++ e ∷ []
    grown = ap (of_session session) one_more ∙ (own_append session (take i lines) (e ∷ []) ∙ ap (λ (l : List Entry). of_session session (take i lines) ++ l) (own_one session e own))

    seam : (xs rest : List Entry) → slice_get (xs ++ e ∷ rest) (length xs) ≡ Some e
    seam [] rest = refl
    seam (x ∷ xs) rest = seam xs rest

    pub entry_answerable : AreAnswerable flights requests journal (of_session session lines)
        → IsAnswerable flights requests journal place e
    entry_answerable all =
        let rest : List Entry = drop (suc i) lines in
        let parts : lines ≡ take i lines ++ e ∷ rest =
        sym (take-append-drop i lines) ∙ ap (λ (l : List Entry). take i lines ++ l) (drop-cons lines i e lt ∙ ap (λ (x : Entry). x ∷ rest) (sym is)) in
        let own_part : of_session session (e ∷ rest) ≡ e ∷ of_session session rest =
        own_append session (e ∷ []) rest ∙ ap (λ (l : List Entry). l ++ of_session session rest) (own_one session e own) in
        let all_of : of_session session lines ≡ of_session session (take i lines) ++ e ∷ of_session session rest =
        ap (of_session session) parts ∙ (own_append session (take i lines) (e ∷ rest) ∙ ap (λ (l : List Entry). of_session session (take i lines) ++ l) own_part) in
        all.each place e (ap (λ (l : List Entry). slice_get l place) all_of
        ∙ (ap (slice_get (of_session session (take i lines) ++ e ∷ of_session session rest)) so_far.count ∙ seam (of_session session (take i lines)) (of_session session rest)))

    whole_front : (xs : List Entry) → take (length xs) (xs ++ e ∷ []) ≡ xs
    whole_front [] = refl
    whole_front (x ∷ xs) = ap (λ (l : List Entry). x ∷ l) (whole_front xs)

    pub answered_own : (new : List ℕ) → IsBehind (IsWantedAnswer wanted flights requests journal place e) mid new
        → AnsweredSoFar wanted flights requests journal session (place + 1) (take (i + 1) lines) old new
    answered_own new answer =
        let xs : List Entry = of_session session (take i lines) in
        let all : List Entry = xs ++ e ∷ [] in
        let before : IsPut (IsWantedAnswer wanted flights requests journal) 0 (take (length xs) all) old mid =
        subst (λ (l : List Entry). IsPut (IsWantedAnswer wanted flights requests journal) 0 l old mid) (sym (whole_front xs)) so_far.put in
        let at : e ≡ get_or all (length xs) e = sym (get_or_from_slice_get all (length xs) e e (seam xs [])) in
        let count : place ≡ 0 + length xs = omega (arith, so_far.count) in
        let here : IsWantedAnswer wanted flights requests journal (0 + length xs) e answer.part = subst (λ (k : ℕ). IsWantedAnswer wanted flights requests journal k e answer.part) count answer.is_part in
        let put : IsPut (IsWantedAnswer wanted flights requests journal) 0 (take (length xs + 1) all) old new =
        put_more (IsWantedAnswer wanted flights requests journal) 0 (length xs) all e old mid new answer.part before (omega (arith, longer xs)) at here answer.written in
        let full : take (length xs + 1) all ≡ all = take_all (length xs + 1) all (omega (arith, longer xs)) in
        record {
          count = omega (arith, so_far.count, longer xs, ap length grown);
          few = omega (arith, so_far.few, ap length one_more, longer (take i lines));
          put = subst (λ (l : List Entry). IsPut (IsWantedAnswer wanted flights requests journal) 0 l old new) (full ∙ sym grown) put;
        }

pub all_answered : (wanted : Wanted) (flights : List Flown) (requests : List Request) (journal : List Entry) (session place i : ℕ)
    (lines : List Entry) (old new : List ℕ)
    → AnsweredSoFar wanted flights requests journal session place (take i lines) old new → length lines ≤ i
    → IsPut (IsWantedAnswer wanted flights requests journal) 0 (of_session session lines) old new
all_answered wanted flights requests journal session place i lines old new so_far over =
    subst (λ (l : List Entry). IsPut (IsWantedAnswer wanted flights requests journal) 0 (of_session session l) old new) (take_all i lines over) so_far.put

-- ---- calls

-- so many lines of the front are of the session
pub record CountedSoFar (session calls : ℕ) (front : List Entry) : Type 0 where
  pub count : calls ≡ calls_of front session
  pub few : calls ≤ length front

module _ (session calls : ℕ) (lines : List Entry) (i : ℕ) (e : Entry) (lt : i < length lines) (is : e ≡ get_or lines i e)
    (so_far : CountedSoFar session calls (take i lines)) where
  next : take (i + 1) lines ≡ take i lines ++ e ∷ []
  next = take_more lines i e lt ∙ ap (λ (x : Entry). take i lines ++ x ∷ []) (sym is)

  own_lines : (last : List Entry) → of_session session (e ∷ []) ≡ last
      → calls_of (take (i + 1) lines) session ≡ calls_of (take i lines) session + length last
  own_lines last one =
      calls_own (take (i + 1) lines) session
      ∙ (ap length (ap (of_session session) next ∙ (own_append session (take i lines) (e ∷ []) ∙ ap (λ (l : List Entry). of_session session (take i lines) ++ l) one))
      ∙ (length-append (of_session session (take i lines)) last ∙ ap (λ (n : ℕ). n + length last) (sym (calls_own (take i lines) session))))

  grows : length (take (i + 1) lines) ≡ length (take i lines) + 1
  grows = ap length next ∙ length-append (take i lines) (e ∷ [])

  pub counted_own : e.session ≡ session → CountedSoFar session (calls + 1) (take (i + 1) lines)
  counted_own own = record {
    count = omega (arith, so_far.count, own_lines (e ∷ []) (own_one session e own));
    few = omega (arith, so_far.few, grows);
  }

  pub counted_other : e.session ≢ session → CountedSoFar session calls (take (i + 1) lines)
  counted_other not = record {
    count = omega (arith, so_far.count, own_lines [] (own_other session e not));
    few = omega (arith, so_far.few, grows);
  }

-- ---- what is wanted

-- a text of such parts is one of parts that are weaker
text_as : {A : Type 0} (P Q : ℕ → A → List ℕ → Type 0) (give : (n : ℕ) (x : A) (t : List ℕ) → P n x t → Q n x t) (n : ℕ)
    (xs : List A) (text : List ℕ) → IsText P n xs text → IsText Q n xs text
text_as P Q give n [] text is = is
text_as P Q give n (x ∷ xs) text is =
    (is.0, is.1, give n x is.0 is.2, is.3, text_as P Q give (n + 1) xs is.1 is.4)

-- the replies to all lines are those of which all are wanted
pub all_are_wanted : (flights : List Flown) (past : List Entry) (scripts : List (List Request)) (added : List Entry)
    (text : List ℕ) → AreReplies flights past scripts added text → AreWanted all_wanted flights past scripts added text
all_are_wanted flights past scripts added text =
    text_as (AreSessions flights scripts (past ++ added)) (AreWantedSessions all_wanted flights scripts (past ++ added)) of_session_lines 0
    (by_session (length scripts) added) text
  where
    no : IsTrue (not true) → ⊥
    no w = cc

    of_line : (requests : List Request) (n : ℕ) (e : Entry) (t : List ℕ) → IsAnswer flights requests (past ++ added) n e t
        → IsWantedAnswer all_wanted flights requests (past ++ added) n e t
    of_line requests n e t is = record {
      answered = λ w. is;
      silent = λ w. absurd (no (subst (λ (b : Bool). IsTrue (not b)) (leb-zero e.number) w));
    }

    of_session_lines : (s : ℕ) (lines : List Entry) (t : List ℕ) → AreSessions flights scripts (past ++ added) s lines t
        → AreWantedSessions all_wanted flights scripts (past ++ added) s lines t
    of_session_lines s lines t =
        text_as (IsAnswer flights (requests_of scripts s) (past ++ added)) (IsWantedAnswer all_wanted flights (requests_of scripts s) (past ++ added)) (of_line (requests_of scripts s)) 0 lines t
