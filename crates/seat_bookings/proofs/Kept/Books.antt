-- The books of an inventory, flight by flight, line by line.
use Rattle.std.proofs.Common.{◌≡◌, ◌≢◌, ◌==◌, ℕ, zero, suc, ◌+◌, ◌<◌, ◌≤◌, Bool, true, false, List, [], ◌∷◌, ◌++◌, drop, length, set, get_or, slice_get, map, cond, Option, Some, None, option_map, if◌then◌else◌, arith, refl, ap, sym, subst, ◌∙◌}
use Rattle.seat_bookings.proofs.Common.{Place, Booking, FlightBook, Advice, confirmed_each, book_at, AreLive, queue_of}
use Rattle.std.proofs.lemmas.List.{get_or-set_same, get_or-set_other}
use Rattle.std.proofs.lemmas.List.Sums.{sum_by_push, fold_push, count_by-le-length}
use Rattle.std.proofs.lemmas.Bool.Decides.{nat_tests}
use Rattle.seat_nesting.specs.Nesting.{Ladders, Table, held_from, ladder_at, legs_of, room, HasLadders}
use Rattle.seat_nesting.specs.Counting.{Counted, limits_of, table_of}
use Rattle.seat_rules.specs.declared.effect.Effect.{Effect}
use Rattle.seat_journal.specs.declared.entry.Command.{Command}
use Rattle.seat_journal.specs.declared.entry.Work.{Work}
use Rattle.seat_journal.specs.declared.entry.Work.TheVariants.{Seats, Limit, Sale}
use Rattle.seat_journal.specs.declared.entry.Entry.{Entry}
use Rattle.seat_rules.specs.declared.action.Action.{Action}
use Rattle.seat_rules.specs.declared.action.Action.TheVariants.{Want, Cancel, Other}
use Rattle.seat_rules.specs.Codes.{action_of}
use Rattle.seat_rules.specs.Bookings.{held}
use Rattle.seat_rules.specs.Sequential.{State, Outcome, state_of, room_left, answer, answer_to, NoneFits}
use Rattle.seat_rules.specs.Journal.{replay, calls_of, IsNext, IsLegal, MayAsk}
use Rattle.seat_rules.specs.Applying.{applied, replied, IsNumbered}
use Rattle.seat_rules.specs.Flights.{bookings_on, is_flight, is_on, advices_anew}
use Rattle.seat_rules.specs.Inventory.{has_memory, has_memory_in, HoldsWithinLimits, IsLawful, KeepsLimits}
use Rattle.seat_rules.specs.Showing.{Standing, shown, standing_of, unsold}
use Rattle.seat_bookings.specs.Books.{book_for, book_of, has_spare, has_spare_in, spare_of, IsEntered, IsOfReplay, IsQueued, LeavesLive, SameBooks}
use Rattle.seat_rules.proofs.Filters.{all_pass, apart_pass, few_pass, ordered_pass}
use Rattle.seat_rules.proofs.Flight.View.{bookings_view}
use Rattle.seat_rules.proofs.Flight.Seen.{seen, answer_on, answer_off, advices_on}
use Rattle.seat_rules.proofs.Step.Effect.{answer_applies, replay_is_numbered}
use Rattle.seat_rules.proofs.Step.Apart.{replay_apart}
use Rattle.seat_rules.proofs.Kept.Commits.{lawful_committed}
use Rattle.seat_rules.proofs.History.Lines.{replay_next}
use Rattle.seat_rules.proofs.History.Legal.{each_legal, legal_nil, legal_push}
use Rattle.seat_rules.proofs.Counters.Limits.{within_none}
use Rattle.seat_rules.proofs.Counters.Changes.{same_table}
use Rattle.seat_rules.proofs.Counters.Shown.{shown_is_held}

-- the same reply, released seats and advices
pub record SameAnswer (a b : Outcome) : Type 0 where
  pub reply : a.reply ≡ b.reply
  pub released : a.released ≡ b.released
  pub advices : a.advices ≡ b.advices

anew_same : (xs : List Advice) → advices_anew (λ n. n) xs ≡ xs
anew_same [] = refl
anew_same (a ∷ xs) = ap (λ (l : List Advice). a ∷ l) (anew_same xs)

-- a line on a flight, answered from the flight's own bookings
on_flight : (grid : Ladders) (f : ℕ) (bs : List Booking) (n : ℕ) (w : Work) → is_on f w ≡ true
    → answer (state_of grid (bookings_on f bs)) n w ≡ seen (λ n. n) f (answer (state_of grid bs) n w)
on_flight grid f bs n w on =
    ap (λ (l : List Booking). answer (state_of grid l) n w) (sym (bookings_view f bs)) ∙ answer_on grid (λ n. n) f bs n w on

pub same_on : (grid : Ladders) (f : ℕ) (bs : List Booking) (n : ℕ) (w : Work) → is_on f w ≡ true → NoneFits grid bs
    → SameAnswer (answer (state_of grid (bookings_on f bs)) n w) (answer (state_of grid bs) n w)
same_on grid f bs n w on quiet =
    let e = on_flight grid f bs n w on in
    record {
      reply = ap (λ (o : Outcome). o.reply) e;
      released = ap (λ (o : Outcome). o.released) e;
      advices = ap (λ (o : Outcome). o.advices) e ∙ (advices_on grid (λ n. n) f bs n w on quiet ∙ anew_same (answer (state_of grid bs) n w).advices);
    }

pub left_on : (grid : Ladders) (f : ℕ) (bs : List Booking) (n : ℕ) (w : Work) → is_on f w ≡ true
    → (answer (state_of grid (bookings_on f bs)) n w).state.bookings
    ≡ bookings_on f (answer (state_of grid bs) n w).state.bookings
left_on grid f bs n w on = ap (λ (o : Outcome). o.state.bookings) (on_flight grid f bs n w on) ∙ bookings_view f (answer (state_of grid bs) n w).state.bookings

pub left_off : (grid : Ladders) (f : ℕ) (bs : List Booking) (n : ℕ) (w : Work) → is_on f w ≡ false → NoneFits grid bs
    → bookings_on f (answer (state_of grid bs) n w).state.bookings ≡ bookings_on f bs
left_off grid f bs n w off quiet =
    sym (bookings_view f (answer (state_of grid bs) n w).state.bookings) ∙ (answer_off grid (λ n. n) f bs n w off quiet ∙ bookings_view f bs)

-- a command without a place is answered from nothing
nowhere : (r : Action) (s t : State) (n : ℕ) (c : Command)
    → SameAnswer (answer_to r None s n c) (answer_to r None t n c)
nowhere Other s t n c = record { reply = refl; released = refl; advices = refl }
nowhere (Want w) s t n c = record { reply = refl; released = refl; advices = refl }
nowhere Cancel s t n c = record { reply = refl; released = refl; advices = refl }

itself_on : (f : ℕ) → (f == f) ≡ true
itself_on f = grind (arith, nat_tests)

-- a line, answered from the book of its flight
same_command : (opening : Ladders) (cap : ℕ) (journal : List Entry) (books : List FlightBook) (calls : List ℕ)
    (counts : Counted) (n : ℕ) (c : Command) (o : Option Place) → c.place ≡ o
    → IsOfReplay opening cap journal books calls counts
    → SameAnswer (answer (state_of (limits_of counts) (book_for books o)) n (Seats c))
    (answer (state_of (limits_of counts) (replay opening journal).bookings) n (Seats c))
same_command opening cap journal books calls counts n c None at k =
    let now : Ladders = limits_of counts in
    let P : Option Place → Type 0 = λ o. SameAnswer (answer_to (action_of c.code) o (state_of now []) n c) (answer_to (action_of c.code) o (state_of now (replay opening journal).bookings) n c) in
    subst P (sym at) (nowhere (action_of c.code) (state_of now []) (state_of now (replay opening journal).bookings) n c)
same_command opening cap journal books calls counts n c (Some place) at k =
    let now : Ladders = limits_of counts in
    let P : List Booking → Type 0 = λ l. SameAnswer (answer (state_of now l) n (Seats c)) (answer (state_of now (replay opening journal).bookings) n (Seats c)) in
    let on : is_on place.flight (Seats c) ≡ true = ap (λ (o : Option Place). is_flight place.flight (option_map (λ (p : Place). p.flight) o)) at ∙ itself_on place.flight in
    subst P (sym (k.by_flight place.flight)) (same_on now place.flight (replay opening journal).bookings n (Seats c) on k.lawful.quiet)

pub same_answer : (opening : Ladders) (cap : ℕ) (journal : List Entry) (books : List FlightBook) (calls : List ℕ)
    (counts : Counted) (n : ℕ) (w : Work) → IsOfReplay opening cap journal books calls counts
    → SameAnswer (answer (state_of (limits_of counts) (book_of books w)) n w)
    (answer (state_of (limits_of counts) (replay opening journal).bookings) n w)
same_answer opening cap journal books calls counts n (Seats c) k = same_command opening cap journal books calls counts n c c.place refl k
same_answer opening cap journal books calls counts n (Limit c) k =
    let now : Ladders = limits_of counts in
    let P : List Booking → Type 0 = λ l. SameAnswer (answer (state_of now l) n (Limit c)) (answer (state_of now (replay opening journal).bookings) n (Limit c)) in
    subst P (sym (k.by_flight c.flight)) (same_on now c.flight (replay opening journal).bookings n (Limit c) (itself_on c.flight) k.lawful.quiet)
same_answer opening cap journal books calls counts n (Sale c) k =
    let now : Ladders = limits_of counts in
    let P : List Booking → Type 0 = λ l. SameAnswer (answer (state_of now l) n (Sale c)) (answer (state_of now (replay opening journal).bookings) n (Sale c)) in
    subst P (sym (k.by_flight c.flight)) (same_on now c.flight (replay opening journal).bookings n (Sale c) (itself_on c.flight) k.lawful.quiet)

pub few_in_book : (opening : Ladders) (cap : ℕ) (journal : List Entry) (books : List FlightBook) (calls : List ℕ)
    (counts : Counted) (f : ℕ) → IsOfReplay opening cap journal books calls counts → length (book_at books f) ≤ 999999
few_in_book opening cap journal books calls counts f k =
    omega (arith, ap length (k.by_flight f), few_pass (λ b. b.place.flight == f) (replay opening journal).bookings, k.lawful.few, k.lawful.capped, k.lawful.small)

-- books that are the same are kept
pub kept_same : (opening : Ladders) (cap : ℕ) (journal : List Entry) (books books' : List FlightBook) (calls : List ℕ)
    (counts : Counted) → IsOfReplay opening cap journal books calls counts → SameBooks books books'
    → IsOfReplay opening cap journal books' calls counts
kept_same opening cap journal books books' calls counts k same = record { lawful = k.lawful; by_flight = λ f. same.each f ∙ k.by_flight f; by_queue = λ f. same.queues f ∙ k.by_queue f; by_session = k.by_session; seats = k.seats }

-- and counters with the same limits that hold the same seats
pub kept_counts : (opening : Ladders) (cap : ℕ) (journal : List Entry) (books : List FlightBook) (calls : List ℕ)
    (counts counts' : Counted) → IsOfReplay opening cap journal books calls counts
    → limits_of counts' ≡ limits_of counts → table_of counts' ≡ table_of counts
    → IsOfReplay opening cap journal books calls counts'
kept_counts opening cap journal books calls counts counts' k limits seats = record {
  lawful = let P : Ladders → Type 0 = λ g. IsLawful opening g cap journal (replay opening journal).bookings in subst P (sym limits) k.lawful;
  by_flight = k.by_flight;
  by_queue = k.by_queue;
  by_session = k.by_session;
  seats = λ f l c. ap (λ (t : Table). t f l c) seats ∙ k.seats f l c;
}

-- the line applied to the book of its flight
entered_on : (opening now : Ladders) (cap : ℕ) (journal : List Entry) (f : ℕ) (e : Entry)
    → IsLawful opening now cap journal (replay opening journal).bookings → IsNext opening journal e
    → is_on f e.work ≡ true
    → applied (bookings_on f (replay opening journal).bookings) e
    ≡ bookings_on f (answer (state_of now (replay opening journal).bookings) (length journal + 1) e.work).state.bookings
entered_on opening now cap journal f e l next on =
    let bs : List Booking = (replay opening journal).bookings in
    let n : ℕ = length journal + 1 in
    let here : Outcome = answer (state_of now (bookings_on f bs)) n e.work in
    let numbered : IsNumbered (length journal) bs = replay_is_numbered opening journal l.legal in
    let numbered_on : IsNumbered (length journal) (bookings_on f bs) = record { below = all_pass _ (λ b. b.number ≤ length journal) bs numbered.below; ordered = ordered_pass _ bs numbered.ordered } in
    let step = answer_applies (state_of now (bookings_on f bs)) (length journal) e.work numbered_on in
    let same = same_on now f bs n e.work on l.quiet in
    let whole : answer (replay opening journal) n e.work ≡ answer (state_of now bs) n e.work = ap (λ (s : State). answer s n e.work) l.left in
    let reply : e.reply ≡ here.reply = ap (λ (x : Entry). x.reply) next.line ∙ (ap (λ (o : Outcome). o.reply) whole ∙ sym same.reply) in
    let advices : e.advices ≡ here.advices = ap (λ (x : Entry). x.advices) next.line ∙ (ap (λ (o : Outcome). o.advices) whole ∙ sym same.advices) in
    let number : e.number ≡ n = ap (λ (x : Entry). x.number) next.line in
    ap (λ x. confirmed_each (replied (bookings_on f bs) x e.work e.reply) e.advices) number
    ∙ (ap (λ (r : List ℕ). confirmed_each (replied (bookings_on f bs) n e.work r) e.advices) reply
    ∙ (ap (λ (a : List Advice). confirmed_each (replied (bookings_on f bs) n e.work here.reply) a) advices
    ∙ (step ∙ left_on now f bs n e.work on)))

-- one call more
called : (journal : List Entry) (e : Entry) (s : ℕ)
    → calls_of (journal ++ e ∷ []) s ≡ calls_of journal s + cond (e.session == s) 1 0
called journal e s = sum_by_push (λ (x : Entry). cond (x.session == s) 1 0) journal e

counted : (journal : List Entry) (e : Entry) (calls : List ℕ)
    → ((s : ℕ) → s ≤ 8 → get_or calls s 0 ≡ calls_of journal s) → length calls ≡ 9 → e.session ≤ 8
    → (s : ℕ) → s ≤ 8
    → get_or (set calls e.session (calls_of journal e.session + 1)) s 0 ≡ calls_of (journal ++ e ∷ []) s
counted journal e calls k nine most s le = cases (e.session == s) refl where
  cases : (t : Bool) → (e.session == s) ≡ t
      → get_or (set calls e.session (calls_of journal e.session + 1)) s 0 ≡ calls_of (journal ++ e ∷ []) s
  cases true is =
      let same : e.session ≡ s = grind (arith, nat_tests) in
      let more : calls_of (journal ++ e ∷ []) s ≡ calls_of journal s + 1 = called journal e s ∙ ap (λ t. calls_of journal s + cond t 1 0) is in
      let at : get_or (set calls e.session (calls_of journal e.session + 1)) e.session 0 ≡ calls_of journal e.session + 1 = get_or-set_same calls e.session (calls_of journal e.session + 1) 0 (omega arith) in
      let P : ℕ → Type 0 = λ x. get_or (set calls e.session (calls_of journal e.session + 1)) x 0 ≡ calls_of journal x + 1 in
      subst P same at ∙ sym more
  cases false is =
      let other : s ≢ e.session = grind (arith, nat_tests) in
      let same : calls_of (journal ++ e ∷ []) s ≡ calls_of journal s = called journal e s ∙ (ap (λ t. calls_of journal s + cond t 1 0) is ∙ omega arith) in
      get_or-set_other calls e.session s (calls_of journal e.session + 1) 0 other ∙ (k s le ∙ sym same)

-- each waiting list is that of its flight's bookings
pub kept_queued : (opening : Ladders) (cap : ℕ) (journal : List Entry) (books : List FlightBook) (calls : List ℕ)
    (counts : Counted) → IsOfReplay opening cap journal books calls counts → IsQueued books
kept_queued opening cap journal books calls counts k =
    record { each = λ f. k.by_queue f ∙ ap queue_of (sym (k.by_flight f)) }

-- the limits and the held seats that a journal leaves
abbrev left_standing : Ladders → List Entry → Standing
left_standing grid journal = record { limits = (replay grid journal).grid; seats = held (replay grid journal).bookings }

-- the counters, shown one line more
shown_next : (opening : Ladders) (cap : ℕ) (journal : List Entry) (books : List FlightBook) (calls : List ℕ)
    (counts : Counted) (e : Entry) → IsOfReplay opening cap journal books calls counts
    → IsLegal opening (journal ++ e ∷ [])
    → shown (standing_of counts) e ≡ left_standing opening (journal ++ e ∷ [])
shown_next opening cap journal books calls counts e k legal =
    let limits : limits_of counts ≡ (replay opening journal).grid = sym (ap (λ (s : State). s.grid) k.lawful.left) in
    let seats : table_of counts ≡ held (replay opening journal).bookings = same_table (table_of counts) (held (replay opening journal).bookings) k.seats in
    let here : standing_of counts ≡ left_standing opening journal = standing_same (limits_of counts) (replay opening journal).grid (table_of counts) (held (replay opening journal).bookings) limits seats in
    ap (λ (s : Standing). shown s e) (here ∙ sym (shown_is_held opening journal k.lawful.legal))
    ∙ (sym (fold_push shown (unsold opening) journal e) ∙ shown_is_held opening (journal ++ e ∷ []) legal)
  where
    standing_same : (g h : Ladders) (t u : Table) → g ≡ h → t ≡ u
        → let a : Standing = record { limits = g; seats = t } in let b : Standing = record { limits = h; seats = u } in
        a ≡ b
    standing_same g h t u p q = λ i. record { limits = p i; seats = q i }

-- sessions are 0 to 8
pub session_most : (session : ℕ) (w : Work) → MayAsk session w → session ≤ 8
session_most session (Seats c) may = may.1
session_most session (Limit c) may = omega (arith, may)
session_most session (Sale c) may = omega (arith, may)

-- a line that is added keeps the books
pub kept_next : (opening : Ladders) (cap : ℕ) (journal : List Entry) (books books' : List FlightBook) (calls : List ℕ)
    (counts counts' : Counted) (e : Entry) → IsOfReplay opening cap journal books calls counts → length calls ≡ 9
    → length journal < cap → IsNext opening journal e
    → IsEntered books books' e → IsQueued books' → standing_of counts' ≡ shown (standing_of counts) e
    → IsOfReplay opening cap (journal ++ e ∷ []) books' (set calls e.session (calls_of journal e.session + 1)) counts'
kept_next opening cap journal books books' calls counts counts' e k nine lt next entered queued shows = record {
  lawful = let P : List Booking → Type 0 = IsLawful opening (limits_of counts') cap (journal ++ e ∷ []) in subst P (sym left) law;
  by_flight = λ f. cases f (is_on f e.work) refl;
  by_queue = λ f. queued.each f ∙ ap queue_of (cases f (is_on f e.work) refl);
  by_session = counted journal e calls k.by_session nine (session_most e.session e.work next.session);
  seats = λ f l c. ap (λ (s : Standing). s.seats f l c) stands;
} where
  stands : standing_of counts' ≡ left_standing opening (journal ++ e ∷ [])
  stands = shows ∙ shown_next opening cap journal books calls counts e k (legal_push opening journal e k.lawful.legal next)

  step : replay opening (journal ++ e ∷ [])
      ≡ (answer (state_of (limits_of counts) (replay opening journal).bookings) (length journal + 1) e.work).state
  step =
      replay_next opening journal e
      ∙ (ap (λ x. (answer (replay opening journal) x e.work).state) (ap (λ (x : Entry). x.number) next.line)
      ∙ ap (λ (s : State). (answer s (length journal + 1) e.work).state) k.lawful.left)

  grid : (answer (state_of (limits_of counts) (replay opening journal).bookings) (length journal + 1) e.work).state.grid
      ≡ limits_of counts'
  grid = sym (ap (λ (s : State). s.grid) step) ∙ sym (ap (λ (s : Standing). s.limits) stands)

  law : IsLawful opening (limits_of counts') cap (journal ++ e ∷ []) (applied (replay opening journal).bookings e)
  law = lawful_committed opening (limits_of counts) (limits_of counts') cap journal (replay opening journal).bookings (applied (replay opening journal).bookings e) e k.lawful lt next refl grid

  left : (replay opening (journal ++ e ∷ [])).bookings ≡ applied (replay opening journal).bookings e
  left = ap (λ (s : State). s.bookings) law.left

  cases : (f : ℕ) (t : Bool) → is_on f e.work ≡ t
      → book_at books' f ≡ bookings_on f (replay opening (journal ++ e ∷ [])).bookings
  cases f true on =
      entered.each f
      ∙ (ap (λ t. if t then applied (book_at books f) e else book_at books f) on
      ∙ (ap (λ (l : List Booking). applied l e) (k.by_flight f)
      ∙ (entered_on opening (limits_of counts) cap journal f e k.lawful next on ∙ ap (λ (s : State). bookings_on f s.bookings) (sym step))))
  cases f false off =
      entered.each f
      ∙ (ap (λ t. if t then applied (book_at books f) e else book_at books f) off
      ∙ (k.by_flight f
      ∙ (sym (left_off (limits_of counts) f (replay opening journal).bookings (length journal + 1) e.work off k.lawful.quiet) ∙ ap (λ (s : State). bookings_on f s.bookings) (sym step))))

-- the line leaves live bookings
pub kept_live : (opening : Ladders) (cap : ℕ) (journal : List Entry) (books : List FlightBook) (calls : List ℕ)
    (counts : Counted) (e : Entry) → IsOfReplay opening cap journal books calls counts → IsNext opening journal e
    → LeavesLive books e
kept_live opening cap journal books calls counts e k next = record { each = λ f on. subst AreLive (sym (left f on)) (live f) } where
  live : (f : ℕ) → AreLive (bookings_on f (replay opening (journal ++ e ∷ [])).bookings)
  live f = record {
    ordered = ordered_pass _ (replay opening (journal ++ e ∷ [])).bookings (replay_is_numbered opening (journal ++ e ∷ []) (legal_push opening journal e k.lawful.legal next)).ordered;
    apart = apart_pass _ (replay opening (journal ++ e ∷ [])).bookings (replay_apart opening (journal ++ e ∷ []));
  }

  step : replay opening (journal ++ e ∷ [])
      ≡ (answer (state_of (limits_of counts) (replay opening journal).bookings) (length journal + 1) e.work).state
  step =
      replay_next opening journal e
      ∙ (ap (λ x. (answer (replay opening journal) x e.work).state) (ap (λ (x : Entry). x.number) next.line)
      ∙ ap (λ (s : State). (answer s (length journal + 1) e.work).state) k.lawful.left)

  left : (f : ℕ) → is_on f e.work ≡ true
      → applied (book_at books f) e ≡ bookings_on f (replay opening (journal ++ e ∷ [])).bookings
  left f on =
      ap (λ (l : List Booking). applied l e) (k.by_flight f)
      ∙ (entered_on opening (limits_of counts) cap journal f e k.lawful next on ∙ ap (λ (s : State). bookings_on f s.bookings) (sym step))

-- sessions beyond 8 have no lines
none_beyond : (s : ℕ) → 8 < s → (grid : Ladders) (journal : List Entry) → IsLegal grid journal → calls_of journal s ≡ 0
none_beyond s beyond grid journal legal =
    each_legal grid (λ j. calls_of j s ≡ 0)
    (λ past e l next h. let other : (e.session == s) ≡ false = let most : e.session ≤ 8 = session_most e.session e.work next.session in grind (arith, nat_tests) in
    called past e s ∙ (ap (λ t. calls_of past s + cond t 1 0) other ∙ omega (arith, h)))
    [] journal refl legal

pub no_calls : (opening : Ladders) (cap : ℕ) (journal : List Entry) (books : List FlightBook) (calls : List ℕ)
    (counts : Counted) (s : ℕ) → IsOfReplay opening cap journal books calls counts → 8 < s → calls_of journal s ≡ 0
no_calls opening cap journal books calls counts s k beyond = none_beyond s beyond opening journal k.lawful.legal

pub few_calls : (opening : Ladders) (cap : ℕ) (journal : List Entry) (books : List FlightBook) (calls : List ℕ)
    (counts : Counted) (s : ℕ) → IsOfReplay opening cap journal books calls counts → calls_of journal s ≤ 999999
few_calls opening cap journal books calls counts s k = omega (arith, count_by-le-length (λ (x : Entry). x.session == s) journal, k.lawful.capped, k.lawful.small)

-- the memory of the books, as it is shown
spares_at : (books : List FlightBook) (i : ℕ) (effect : Effect)
    → has_memory_in effect (slice_get (map spare_of books) i) ≡ has_spare_in effect (slice_get books i)
spares_at [] i effect = refl
spares_at (b ∷ bs) zero effect = refl
spares_at (b ∷ bs) (suc i) effect = spares_at bs i effect

pub memory_is : (books : List FlightBook) (o : Option Place) (effect : Effect)
    → has_memory (map spare_of books) o effect ≡ has_spare books o effect
memory_is books None effect = refl
memory_is books (Some place) effect = spares_at books place.flight effect

-- the seats that the counters hold in a rank and below
pub held_kept : (opening : Ladders) (cap : ℕ) (journal : List Entry) (books : List FlightBook) (calls : List ℕ)
    (counts : Counted) (flight leg rank : ℕ) → IsOfReplay opening cap journal books calls counts
    → held_from (table_of counts flight leg) (drop rank (ladder_at (limits_of counts) flight leg))
    ≡ held_from (held (replay opening journal).bookings flight leg) (drop rank (ladder_at (replay opening journal).grid flight leg))
held_kept opening cap journal books calls counts flight leg rank k =
    ap (λ (t : Table). held_from (t flight leg) (drop rank (ladder_at (limits_of counts) flight leg))) (same_table (table_of counts) (held (replay opening journal).bookings) k.seats)
    ∙ ap (λ (s : State). held_from (held s.bookings flight leg) (drop rank (ladder_at s.grid flight leg))) (sym k.lawful.left)

-- the room that the counters leave
pub room_kept : (opening : Ladders) (cap : ℕ) (journal : List Entry) (books : List FlightBook) (calls : List ℕ)
    (counts : Counted) (place : Place) (class : ℕ) → IsOfReplay opening cap journal books calls counts
    → room (limits_of counts) (table_of counts) place class ≡ room_left (replay opening journal) place class
room_kept opening cap journal books calls counts place class k =
    ap (λ (t : Table). room (limits_of counts) t place class) (same_table (table_of counts) (held (replay opening journal).bookings) k.seats)
    ∙ ap (λ (s : State). room_left s place class) (sym k.lawful.left)

-- no call yet
abbrev pub nine_zeros : List ℕ
nine_zeros = 0 ∷ 0 ∷ 0 ∷ 0 ∷ 0 ∷ 0 ∷ 0 ∷ 0 ∷ 0 ∷ []

zeros : (s : ℕ) → get_or nine_zeros s 0 ≡ 0
zeros zero = refl
zeros (suc zero) = refl
zeros (suc (suc zero)) = refl
zeros (suc (suc (suc zero))) = refl
zeros (suc (suc (suc (suc zero)))) = refl
zeros (suc (suc (suc (suc (suc zero))))) = refl
zeros (suc (suc (suc (suc (suc (suc zero)))))) = refl
zeros (suc (suc (suc (suc (suc (suc (suc zero))))))) = refl
zeros (suc (suc (suc (suc (suc (suc (suc (suc zero)))))))) = refl
zeros (suc (suc (suc (suc (suc (suc (suc (suc (suc s))))))))) = refl

-- an inventory that was opened
pub kept_opened : (grid : Ladders) (cap : ℕ) (counts : Counted) → HasLadders grid → cap ≤ 999999
    → limits_of counts ≡ grid → ((f l k : ℕ) → table_of counts f l k ≡ 0) → IsOfReplay grid cap [] [] nine_zeros counts
kept_opened grid cap counts ladders small same none = record {
  lawful = record {
    legal = legal_nil grid;
    capped = omega arith;
    small = small;
    left = ap (λ (g : Ladders). state_of g []) (sym same);
    few = omega arith;
    alike = λ flight. ap (λ (g : Ladders). length (legs_of g flight)) same;
    ladders = subst HasLadders (sym same) ladders;
    within = λ flight leg. within_none _;
    quiet = tt;
  };
  by_flight = λ f. refl;
  by_queue = λ f. refl;
  by_session = λ s le. zeros s;
  seats = none;
}

-- what is kept holds no more than authorised
pub kept_within : (opening : Ladders) (cap : ℕ) (journal : List Entry) (books : List FlightBook) (calls : List ℕ)
    (counts : Counted) → IsOfReplay opening cap journal books calls counts → HoldsWithinLimits opening journal
kept_within opening cap journal books calls counts k =
    let P : State → Type 0 = λ s. KeepsLimits s.grid s.bookings in
    record { held = subst P (sym k.lawful.left) k.lawful.within }
