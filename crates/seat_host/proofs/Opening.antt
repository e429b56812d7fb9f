-- A host that goes on from lines.
use Rattle.std.proofs.Common.{◌≡◌, ◌≢◌, ℕ, suc, ◌+◌, ◌<◌, ◌≤◌, ◌⊎◌, List, [], ◌∷◌, ◌++◌, length, get_or, take, drop, refl, ap, sym, subst, ◌∙◌, arith, ⊎_elim}
use Rattle.std.specs.Prelude.{All, slice_index, slice_set}
use Rattle.std.proofs.lemmas.List.{append-nil, length-take-le, take-append-drop, take_more}
use Rattle.std.proofs.lemmas.Bool.{cases_lt}
use Rattle.logbook.specs.Pages.{Book}
use Rattle.seat_nesting.specs.Nesting.{Ladders}
use Rattle.seat_journal.specs.declared.entry.Work.{Work}
use Rattle.seat_journal.specs.declared.entry.Work.TheVariants.{Seats, Limit, Sale}
use Rattle.seat_journal.specs.declared.entry.Entry.{Entry}
use Rattle.seat_rules.specs.Prefixes.{Begins}
use Rattle.seat_rules.specs.Journal.{IsLegal, IsNext, MayAsk}
use Rattle.seat_rules.proofs.History.Legal.{each_legal, legal_prefix}
use Rattle.seat_rules.proofs.History.Prefixes.{begins_itself, begins_length}
use Rattle.seat_display.specs.Faces.{Viewed, opened}
use Rattle.seat_rules.specs.Histories.{of_session, OnlyFirst}
use Rattle.seat_host.specs.Lawful.{IsTied, CountsFirst}
use Rattle.seat_host.specs.Ledgers.{Staked, counted}
use Rattle.seat_host.specs.Seating.{Seating}
use Rattle.seat_host.specs.Sessions.{KeepsLines, Seat, Stands, seat_of, seated, seated_sessions}
use Rattle.line_booking.specs.Receipts.{Kept, KeepsLine}
use Rattle.seat_host.proofs.Keeping.{given_all, keeps_more}
use Rattle.seat_rules.proofs.Own.{own_append, own_length, own_one, own_other}
use Rattle.seat_host.proofs.Booking.{at_set_here, at_set_else, set_length, dec_nat, no_calls}

-- without lines no session has one
pub only_none : (n : ℕ) (journal : List Entry) → journal ≡ [] → OnlyFirst n journal
only_none n journal is = record { none = λ s more. ap (of_session s) is }

-- no session above 8 has a line of a legal history
pub only_eight : (grid : Ladders) (journal : List Entry) → IsLegal grid journal → OnlyFirst 8 journal
only_eight grid journal legal = record { none = λ s more. each_legal grid (λ (past : List Entry). of_session s past ≡ []) (step s more) [] journal refl legal }
  where
    at_most : (e : Entry) → (w : Work) → MayAsk e.session w → e.session ≤ 8
    at_most e (Seats c) may = may.1
    at_most e (Limit c) may = omega (arith, may)
    at_most e (Sale c) may = omega (arith, may)

    step : (s : ℕ) → 8 < s → (past : List Entry) (e : Entry) → IsLegal grid past → IsNext grid past e
        → of_session s past ≡ [] → of_session s (past ++ e ∷ []) ≡ []
    step s more past e l next none =
        let other : e.session ≢ s = λ q. absurd (omega (arith, q, at_most e e.work next.session, more)) in
        own_append s past (e ∷ []) ∙ (λ i. none i ++ own_other s e other i)

-- nothing is counted yet
counts_none : (journal : List Entry) (line_counts : List ℕ) → line_counts ≡ 0 ∷ 0 ∷ 0 ∷ 0 ∷ 0 ∷ 0 ∷ 0 ∷ 0 ∷ 0 ∷ []
    → CountsFirst 0 journal line_counts
counts_none journal line_counts zeros = record {
  wide = ap length zeros;
  own = λ s few. absurd (omega (arith, few));
  none = λ s more high. ap (λ (l : List ℕ). slice_index l s) zeros ∙ no_calls s high;
}

-- the lines of one session more are counted
pub counts_more : (n : ℕ) (journal : List Entry) (line_counts now : List ℕ) → CountsFirst n journal line_counts → n < 9
    → now ≡ slice_set line_counts n (slice_index line_counts n + length (of_session n journal))
    → CountsFirst (n + 1) journal now
counts_more n journal line_counts now c high is = record {
  wide = ap length is ∙ set_length line_counts n _ ∙ c.wide;
  own = λ s few. ⊎_elim
      (λ (same : s ≡ n). subst (λ (k : ℕ). slice_index now k ≡ length (of_session k journal)) (sym same)
      (ap (λ (l : List ℕ). slice_index l n) is ∙ (at_set_here line_counts n _ (omega (arith, c.wide, high)) ∙ omega (arith, c.none n (omega arith) high))))
      (λ (not : s ≢ n). ap (λ (l : List ℕ). slice_index l s) is ∙ (at_set_else line_counts n s _ not ∙ c.own s (less s n few not)))
      (dec_nat s n);
  none = λ s more high. ap (λ (l : List ℕ). slice_index l s) is ∙ (at_set_else line_counts n s _ (λ q. absurd (omega (arith, q, more))) ∙ c.none s (omega (arith, more)) high);
}
  where
    less : (s n : ℕ) → s < n + 1 → s ≢ n → s < n
    less s n few not = omega (arith, few, not)

-- the same of the share that counts them
counts_seated : (n was : ℕ) (journal receipts : List Entry) (line_counts now : List ℕ) (stake : Staked) (more : ℕ)
    → CountsFirst n journal line_counts → n < 9 → stake ≡ counted was 0 → was ≡ n → receipts ≡ of_session n journal
    → more ≡ length receipts
    → now ≡ slice_set line_counts stake.number (slice_index line_counts stake.number + more)
    → CountsFirst (n + 1) journal now
counts_seated n was journal receipts line_counts now stake more c high staked next own many is =
    let number : stake.number ≡ n = ap (λ (k : Staked). k.number) staked ∙ next in
    let lines : more ≡ length (of_session n journal) = many ∙ ap length own in
    counts_more n journal line_counts now c high (is ∙ (λ i. slice_set line_counts (number i) (slice_index line_counts (number i) + lines i)))

pub stake_seated : (book : Book) (grid : Ladders) (n was more : ℕ) (lines receipts : List Entry) (line_counts : List ℕ)
    (viewers : List Viewed) (stake now : Staked) → Seating book grid lines n line_counts was viewers
    → stake ≡ counted was 0 → more ≡ length receipts → now ≡ counted stake.number (stake.amount + more)
    → now ≡ counted n (length receipts)
stake_seated book grid n was more lines receipts line_counts viewers stake now s staked many is =
    let number : stake.number ≡ n = ap (λ (k : Staked). k.number) staked ∙ s.next_is in
    let amount : stake.amount + more ≡ length receipts = omega (arith, ap (λ (k : Staked). k.amount) staked, many) in
    is ∙ (λ i. counted (number i) (amount i))

-- nobody is seated yet
pub seating_none : (book : Book) (grid : Ladders) (lines : List Entry) (line_counts : List ℕ) (next : ℕ)
    (viewers : List Viewed) → line_counts ≡ 0 ∷ 0 ∷ 0 ∷ 0 ∷ 0 ∷ 0 ∷ 0 ∷ 0 ∷ 0 ∷ [] → next ≡ 0
    → All (λ v. v ≡ opened book grid) viewers → Seating book grid lines 0 line_counts next viewers
seating_none book grid lines line_counts next viewers zeros first new = record {
  counts = counts_none lines line_counts zeros;
  next_is = first;
  new = new;
}

-- one more is seated
pub seating_next : (book : Book) (grid : Ladders) (n was next more : ℕ) (lines receipts : List Entry)
    (line_counts now : List ℕ) (stake : Staked) (viewers rest : List Viewed)
    → Seating book grid lines n line_counts was viewers → n < 9 → stake ≡ counted was 0 → receipts ≡ of_session n lines
    → more ≡ length receipts
    → now ≡ slice_set line_counts stake.number (slice_index line_counts stake.number + more) → next ≡ was + 1
    → All (λ v. v ≡ opened book grid) rest → Seating book grid lines (n + 1) now next rest
seating_next book grid n was next more lines receipts line_counts now stake viewers rest s high staked own many is up new = record {
  counts = counts_seated n was lines receipts line_counts now stake more s.counts high staked s.next_is own many is;
  next_is = up ∙ ap (λ (k : ℕ). k + 1) s.next_is;
  new = new;
}

-- all lines are counted
pub tied_over : (grid over : Ladders) (cap most n m : ℕ) (line_counts : List ℕ) (journal : List Entry)
    → CountsFirst (m + 1) journal line_counts → OnlyFirst m journal → IsLegal over journal → length journal ≤ most
    → over ≡ grid → most ≡ cap → cap ≤ 999999 → m ≡ n → m < 9
    → IsTied grid cap n line_counts journal
tied_over grid over cap most n m line_counts journal c only legal capped same full small is few = record {
  wide = c.wide;
  few = omega (arith, few, is);
  legal = subst (λ (g : Ladders). IsLegal g journal) same legal;
  capped = omega (arith, capped, full);
  small = small;
  counts = λ s high. ⊎_elim
      (λ (above : m < s). c.none s (omega (arith, above)) high ∙ sym (ap length (only.none s above)))
      (λ (le : s ≤ m). c.own s (omega (arith, le)))
      (cases_lt m s);
  only = subst (λ (k : ℕ). OnlyFirst k journal) is only;
}

-- one session more
pub seated_more : (xs now : List Seat) (s : Seat) (n : ℕ) (past : List Entry) → xs ≡ seated_sessions n past
    → now ≡ xs ++ s ∷ [] → s ≡ seated (n + 1) past → now ≡ seated_sessions (n + 1) past
seated_more xs now s n past is more last =
    let up : n + 1 ≡ suc n = omega arith in
    more ∙ (λ i. is i ++ last i ∷ []) ∙ ap (λ (k : ℕ). seated_sessions n past ++ seated k past ∷ []) up ∙ sym (ap (λ (k : ℕ). seated_sessions k past) up)

-- a session that goes on from these lines
pub stands_seated : (grid : Ladders) (n id : ℕ) (receipts past : List Entry) → id ≤ n → n < 9 → IsLegal grid past
    → length past ≤ 999999 → receipts ≡ of_session id past
    → Stands grid n (record { id = id; receipts = receipts; front = past })
stands_seated grid n id receipts past le few legal short own = record {
  number = (le, few);
  legal = legal;
  own = subst (λ (l : List Entry). Begins receipts l) own (begins_itself receipts);
  few = omega (arith, ap length own, own_length id past, short);
}

pub seated_is : (id : ℕ) (receipts : Kept) (past : List Entry) → KeepsLines receipts (of_session id past)
    → seat_of id (length receipts.numbers) past ≡ seated id past
seated_is id receipts past own = λ i. record { id = id; receipts = given_all receipts (of_session id past) own i; front = past }

none_if_short : (xs : List Entry) → length xs ≤ 0 → xs ≡ []
none_if_short [] le = refl
none_if_short (x ∷ xs) le = absurd (omega (arith, le))

-- who had seen nothing has then seen all that he was told
pub front_whole : (visible told front : List Entry) (b : Book) (g : Ladders) (old : Viewed) → told ≡ visible
    → old ≡ opened b g → Begins told front → (front ≡ old.front) ⊎ (front ≡ told) → front ≡ visible
front_whole visible told front b g old all new note longer = ⊎_elim
    (λ (same : front ≡ old.front).
    let none : front ≡ [] = same ∙ ap (λ (v : Viewed). v.front) new in
    none ∙ sym (none_if_short told (omega (arith, begins_length told front note, ap length none))) ∙ all)
    (λ (is : front ≡ told). is ∙ all)
    longer

-- ---- line by line

take_next : (lines : List Entry) (i : ℕ) (e : Entry) → i < length lines → e ≡ get_or lines i e
    → take (i + 1) lines ≡ take i lines ++ e ∷ []
take_next lines i e lt is = take_more lines i e lt ∙ ap (λ (x : Entry). take i lines ++ x ∷ []) (sym is)

-- a line of a legal history may be shown behind those before it
pub legal_at_end : (grid over : Ladders) (visible pending lines : List Entry) (i : ℕ) (e shown : Entry)
    → IsLegal grid lines → over ≡ grid → visible ≡ [] → pending ≡ take i lines → i < length lines → e ≡ get_or lines i e
    → shown ≡ e → IsLegal over ((visible ++ pending) ++ shown ∷ [])
legal_at_end grid over visible pending lines i e shown legal same none so_far lt is copied =
    let all : (visible ++ pending) ++ shown ∷ [] ≡ take (i + 1) lines = (λ k. (none k ++ so_far k) ++ copied k ∷ []) ∙ sym (take_next lines i e lt is) in
    let begins : IsLegal grid (take (i + 1) lines) = legal_prefix grid (take (i + 1) lines) lines (record { rest = drop (i + 1) lines; is = sym (take-append-drop (i + 1) lines) }) legal in
    subst (λ (x : Ladders × List Entry). IsLegal x.0 x.1) (λ k. (sym same k, sym all k)) begins

pub short_at_end : (visible pending lines : List Entry) (i : ℕ) → visible ≡ [] → pending ≡ take i lines
    → i < length lines → length lines ≤ 999999 → length visible + length pending < 1000000
short_at_end visible pending lines i none so_far lt few = omega (arith, ap length none, ap length so_far, length-take-le i lines (omega (arith, lt)), lt, few)

pub pending_next : (pending now lines : List Entry) (i : ℕ) (e shown : Entry) → pending ≡ take i lines
    → i < length lines → e ≡ get_or lines i e → shown ≡ e → now ≡ pending ++ shown ∷ [] → now ≡ take (i + 1) lines
pending_next pending now lines i e shown so_far lt is copied more = more ∙ (λ k. so_far k ++ copied k ∷ []) ∙ sym (take_next lines i e lt is)

-- the lines of a session, with one line more
pub own_next : (s : ℕ) (lines : List Entry) (receipts kept : Kept) (i : ℕ) (e copy : Entry)
    → KeepsLines receipts (of_session s (take i lines)) → KeepsLine receipts kept copy
    → i < length lines → e ≡ get_or lines i e → copy ≡ e → e.session ≡ s
    → KeepsLines kept (of_session s (take (i + 1) lines))
own_next s lines receipts kept i e copy own more lt is copied mine =
    let longer : of_session s (take (i + 1) lines) ≡ of_session s (take i lines) ++ copy ∷ [] =
    ap (of_session s) (take_next lines i e lt is) ∙ own_append s (take i lines) (e ∷ []) ∙ ap (λ l. of_session s (take i lines) ++ l) (own_one s e mine) ∙ ap (λ (x : Entry). of_session s (take i lines) ++ x ∷ []) (sym copied) in
    subst (KeepsLines kept) (sym longer) (keeps_more receipts kept (of_session s (take i lines)) copy own more)

pub own_skip : (s : ℕ) (lines : List Entry) (receipts : Kept) (i : ℕ) (e : Entry)
    → KeepsLines receipts (of_session s (take i lines))
    → i < length lines → e ≡ get_or lines i e → e.session ≢ s → KeepsLines receipts (of_session s (take (i + 1) lines))
own_skip s lines receipts i e own lt is other =
    let same : of_session s (take (i + 1) lines) ≡ of_session s (take i lines) =
    ap (of_session s) (take_next lines i e lt is) ∙ own_append s (take i lines) (e ∷ []) ∙ ap (λ l. of_session s (take i lines) ++ l) (own_other s e other) ∙ append-nil (of_session s (take i lines)) in
    subst (KeepsLines receipts) (sym same) own
