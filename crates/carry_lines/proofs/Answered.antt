-- Each booking is answered by what those that were asked for ahead of it left.
use Rattle.std.proofs.Common.{◌≡◌, ℕ, ◌+◌, nat_le, Bool, true, false, find, List, [], ◌∷◌, ◌++◌, length, zero, suc, slice_get, Some, None, arith, refl, ap, sym, subst, ◌∙◌}
use Rattle.std.proofs.lemmas.List.{length_push}
use Rattle.std.specs.List.{AllByRecursion}
use Rattle.airline_base.specs.declared.place.Place.{Place}
use Rattle.seat_journal.specs.declared.entry.Change.{Change}
use Rattle.seat_journal.specs.declared.entry.Command.{Command}
use Rattle.seat_journal.specs.declared.entry.Entry.{Entry}
use Rattle.seat_journal.specs.declared.entry.Work.{Work}
use Rattle.seat_journal.specs.declared.entry.Work.TheVariants.{Limit, Seats}
use Rattle.seat_nesting.specs.Nesting.{Ladders, is_listed, may_wait, room}
use Rattle.seat_rules.specs.declared.action.Wish.TheVariants.{Sell, Waitlist}
use Rattle.seat_rules.specs.declared.booking.Booking.{Booking}
use Rattle.seat_rules.specs.declared.booking.Status.{Status}
use Rattle.seat_rules.specs.declared.booking.Status.TheVariants.{Held, Waiting}
use Rattle.seat_rules.specs.Bookings.{Differs, IsApart, held, is_for, waiting}
use Rattle.seat_rules.specs.Inventory.{Inventory}
use Rattle.seat_rules.specs.Journal.{replay}
use Rattle.seat_rules.specs.Prefixes.{Begins}
use Rattle.seat_rules.specs.Sequential.{State, answer, booking_of, changed_by, may_change, pass, reduced, set, state_of, want_new}
use Rattle.seat_rules.proofs.History.Lines.{replay_next}
use Rattle.seat_rules.proofs.History.Prefixes.{begins_shorter, begins_trans, begins_whole, push_same}
use Rattle.seat_rules.proofs.Passes.Quiet.{all_push}
use Rattle.seat_rules.proofs.Step.Apart.{all_confirmed, all_reduced}
use Rattle.seat_rules.proofs.Step.Limits.{each_pass}
use Rattle.seat_rules.proofs.Step.Outcomes.{each_outcome}
use Rattle.seat_carrying.specs.Carrying.{command_for}
use Rattle.seat_carrying.specs.Owned.{bookings_of, line_for, lines_after, owned_in_turn}
use Rattle.seat_carrying.specs.declared.owned.Owned.{Owned}
use Rattle.seat_carrying.proofs.Asked.{bookings_turn}
use Rattle.seat_carrying.proofs.Asking.{ask_for, none_found}
use Rattle.seat_carrying.proofs.Turns.{apart_turn}
use Rattle.carry_lines.specs.Setting.{changes_of, lines_set, manager_line}
use Rattle.carry_lines.specs.Carried.{AnswersByRoom, asked_lines, changed_lines, reply_by, reply_for}
use Rattle.carry_lines.proofs.Counting.{length_changed}
use Rattle.carry_lines.proofs.Lines.{begins_after}

-- ---- behind changes of an inventory without bookings there are none

none_set : (s : State) (n : ℕ) (c : Change) → s.bookings ≡ [] → (answer s n (Limit c)).state.bookings ≡ []
none_set s n c none = cases (may_change s c) refl where
  cases : (t : Bool) → may_change s c ≡ t → (set s c).state.bookings ≡ []
  cases true e = rw e (ap (λ (l : List Booking). (pass (changed_by s.grid c) [] [] l).bookings) none)
  cases false e = rw e none

none_after : (grid : Ladders) (past : List Entry) (rows : List Change) → (replay grid past).bookings ≡ []
    → (replay grid (lines_set grid past (changes_of rows))).bookings ≡ []
none_after grid past [] none = none
none_after grid past (row ∷ rows) none =
    let line : Entry = manager_line grid past (Limit row) in
    none_after grid (past ++ line ∷ []) rows
    (ap (λ (s : State). s.bookings) (replay_next grid past line) ∙ none_set (replay grid past) (length past + 1) row none)

pub none_changed : (grid : Ladders) (rows : List Change) → (replay grid (changed_lines grid rows)).bookings ≡ []
none_changed grid rows = none_after grid [] rows refl

-- ---- one is answered

by_sale : (s : State) (n : ℕ) (c : Command) (place : Place) (fits listed may : Bool)
    → (want_new Sell s n c place fits listed may).reply ≡ reply_by Held fits may
by_sale s n c place true listed may = refl
by_sale s n c place false listed true = refl
by_sale s n c place false listed false = refl

by_list : (s : State) (n : ℕ) (c : Command) (place : Place) (fits listed may : Bool)
    → (want_new Waitlist s n c place fits listed may).reply ≡ reply_by Waiting fits may
by_list s n c place fits listed true = refl
by_list s n c place fits listed false = refl

reply_plain : (grid : Ladders) (done : List Booking) (n : ℕ) (locator : List ℕ) (place : Place) (class seats : ℕ) (status : Status)
    → find (is_for locator place class) done ≡ None
    → (answer (state_of grid done) n (Seats (ask_for locator place class seats status))).reply
    ≡ reply_by status (nat_le seats (room grid (held done) place class)) (may_wait grid (waiting done) place class seats)
reply_plain grid done n locator place class seats Held none =
    rw none (by_sale (state_of grid done) n (ask_for locator place class seats Held) place (nat_le seats (room grid (held done) place class))
    (is_listed grid place class) (may_wait grid (waiting done) place class seats))
reply_plain grid done n locator place class seats Waiting none =
    rw none (by_list (state_of grid done) n (ask_for locator place class seats Waiting) place (nat_le seats (room grid (held done) place class))
    (is_listed grid place class) (may_wait grid (waiting done) place class seats))

one_answered : (s : State) (n : ℕ) (b : Booking) → AllByRecursion (λ x. Differs x b) s.bookings
    → (answer s n (Seats (command_for b))).reply ≡ reply_for s b
one_answered s n b differs =
    reply_plain s.grid s.bookings n b.locator b.place b.class b.seats b.status (none_found (is_for b.locator b.place b.class) s.bookings differs)

-- ---- what is asked for is for what it is for

differs_new : (a b : Booking) (n : ℕ) (c : Command) (place : Place) (status : Status) → Seats c ≡ Seats (command_for a) → c.place ≡ Some place
    → Differs a b → Differs (booking_of n c place status) b
differs_new a b n c place status is at differs =
    let same : c ≡ command_for a = cc in
    let locator : c.locator ≡ a.locator = ap (λ (x : Command). x.locator) same in
    let class : c.class ≡ a.class = ap (λ (x : Command). x.class) same in
    let some : Some place ≡ Some a.place = sym at ∙ ap (λ (x : Command). x.place) same in
    let there : place ≡ a.place = cc in
    rw (locator, there, class) differs

differs_pass : (b : Booking) (grid : Ladders) (xs : List Booking) → AllByRecursion (λ x. Differs x b) xs
    → AllByRecursion (λ x. Differs x b) (pass grid [] [] xs).bookings
differs_pass b grid xs h =
    each_pass (λ (l : List Booking). AllByRecursion (λ x. Differs x b) l) grid
    (λ done x bs d may. all_confirmed (λ x. Differs x b) done x bs (λ h. h) d) [] xs [] h

-- those that are for something else than a booking still are behind another that is too
differs_answer : (a b : Booking) (s : State) (n : ℕ) → Differs a b → AllByRecursion (λ x. Differs x b) s.bookings
    → AllByRecursion (λ x. Differs x b) (answer s n (Seats (command_for a))).state.bookings
differs_answer a b s n differs h =
    each_outcome (λ v o. v ≡ Seats (command_for a) → AllByRecursion (λ x. Differs x b) o.state.bookings) s n
    (λ v r is. h)
    (λ c place at none fits is. more c place Held is at)
    (λ c place at none over why is. more c place Waiting is at)
    (λ c place at none is. differs_pass b s.grid (s.bookings ++ booking_of n c place Waiting ∷ []) (more c place Waiting is at))
    (λ c place x at found le is. differs_pass b s.grid (reduced (is_for c.locator place c.class) c.seats s.bookings)
    (all_reduced (λ x. Differs x b) (is_for c.locator place c.class) c.seats s.bookings (λ x e d. d) h))
    (λ c may is. differs_pass b (changed_by s.grid c) s.bookings h)
    (λ c may is. absurd cc)
    (Seats (command_for a)) refl
  where
    more : (c : Command) (place : Place) (status : Status) → Seats c ≡ Seats (command_for a) → c.place ≡ Some place
        → AllByRecursion (λ x. Differs x b) (s.bookings ++ booking_of n c place status ∷ [])
    more c place status is at =
        all_push (λ x. Differs x b) s.bookings (booking_of n c place status) h (differs_new a b n c place status is at differs)

-- ---- one after the other

-- none of the bookings so far is for what any of these is for
abbrev AreAhead : Ladders → List Entry → List Owned → Type 0
AreAhead grid past os = AllByRecursion (λ o. AllByRecursion (λ x. Differs x o.booking) (replay grid past).bookings) os

ahead_next : (grid : Ladders) (past : List Entry) (o : Owned) (os : List Owned) → AllByRecursion (Differs o.booking) (bookings_of os)
    → AreAhead grid past os → AreAhead grid (past ++ line_for grid past o ∷ []) os
ahead_next grid past o [] differs ahead = tt
ahead_next grid past o (p ∷ os) differs ahead =
    let line : Entry = line_for grid past o in (
      subst (λ (s : State). AllByRecursion (λ x. Differs x p.booking) s.bookings) (sym (replay_next grid past line))
          (differs_answer o.booking p.booking (replay grid past) (length past + 1) differs.0 ahead.0),
      ahead_next grid past o os differs.1 ahead.1,
    )

-- each is answered by what those that were asked for ahead of it left
abbrev AreAnsweredByRoom : Ladders → List Entry → List Owned → Type 0
AreAnsweredByRoom grid past [] = Unit {0}
AreAnsweredByRoom grid past (o ∷ owned) =
    ((line_for grid past o).reply ≡ reply_for (replay grid past) o.booking)
    × AreAnsweredByRoom grid (past ++ line_for grid past o ∷ []) owned

by_room : (grid : Ladders) (past : List Entry) (os : List Owned) → IsApart (bookings_of os) → AreAhead grid past os
    → AreAnsweredByRoom grid past os
by_room grid past [] apart ahead = tt
by_room grid past (o ∷ os) apart ahead = (
  one_answered (replay grid past) (length past + 1) o.booking ahead.0,
  by_room grid (past ++ line_for grid past o ∷ []) os apart.1 (ahead_next grid past o os apart.0 ahead.1),
)

none_ahead : (grid : Ladders) (past : List Entry) (os : List Owned) → (replay grid past).bookings ≡ [] → AreAhead grid past os
none_ahead grid past [] none = tt
none_ahead grid past (o ∷ os) none =
    (subst (λ (l : List Booking). AllByRecursion (λ x. Differs x o.booking) l) (sym none) tt, none_ahead grid past os none)

-- ---- and stands in the journal

-- the line at the place of another is the other
same_line : (grid : Ladders) (past front journal : List Entry) (o : Owned) (e : Entry)
    → Begins (past ++ line_for grid past o ∷ []) journal → Begins (front ++ e ∷ []) journal → length front ≡ length past
    → (line_for grid past o).reply ≡ reply_for (replay grid past) o.booking → e.reply ≡ reply_for (replay grid front) o.booking
same_line grid past front journal o e here there long reply =
    let line : Entry = line_for grid past o in
    let longer : length (past ++ line ∷ []) ≡ length (front ++ e ∷ []) = omega (arith, long, length_push past line, length_push front e) in
    let begins = begins_shorter (past ++ line ∷ []) (front ++ e ∷ []) journal here there (omega (arith, longer)) in
    let same : past ++ line ∷ [] ≡ front ++ e ∷ [] = begins_whole (past ++ line ∷ []) (front ++ e ∷ []) begins (omega (arith, longer)) in
    let parts = push_same past front line e same in
    sym (ap (λ (x : Entry). x.reply) parts.1) ∙ reply ∙ ap (λ (l : List Entry). reply_for (replay grid l) o.booking) parts.0

at_turn : (grid : Ladders) (past : List Entry) (os : List Owned) (turn : ℕ) (o : Owned) (journal front : List Entry) (e : Entry)
    → AreAnsweredByRoom grid past os → slice_get os turn ≡ Some o → Begins (lines_after grid past os) journal
    → Begins (front ++ e ∷ []) journal → length front ≡ length past + turn → e.reply ≡ reply_for (replay grid front) o.booking
at_turn grid past [] turn o journal front e answered at begins there long = absurd cc
at_turn grid past (p ∷ os) zero o journal front e answered at begins there long =
    let more : List Entry = past ++ line_for grid past p ∷ [] in
    let first : p ≡ o = cc in
    let reply = same_line grid past front journal p e (begins_trans more (lines_after grid more os) journal (begins_after grid more os) begins) there
    (omega (arith, long)) answered.0 in
    reply ∙ ap (λ (x : Owned). reply_for (replay grid front) x.booking) first
at_turn grid past (p ∷ os) (suc turn) o journal front e answered at begins there long =
    at_turn grid (past ++ line_for grid past p ∷ []) os turn o journal front e answered.1 at begins there
    (omega (arith, long, length_push past (line_for grid past p)))

pub answers_by_room : (grid : Ladders) (rows : List Change) (live : List Owned) (new : Inventory)
    → Begins (asked_lines grid rows live) new.journal → AnswersByRoom grid rows live new
answers_by_room grid rows live new begins = record { each = each } where
  each : (turn : ℕ) (o : Owned) (front : List Entry) (e : Entry) → IsApart (bookings_of live)
      → slice_get (owned_in_turn live) turn ≡ Some o → Begins (front ++ e ∷ []) new.journal → length front ≡ length rows + turn
      → e.reply ≡ reply_for (replay grid front) o.booking
  each turn o front e apart at there long =
      at_turn grid (changed_lines grid rows) (owned_in_turn live) turn o new.journal front e
      (by_room grid (changed_lines grid rows) (owned_in_turn live) (subst IsApart (sym (bookings_turn live)) (apart_turn (bookings_of live) apart))
      (none_ahead grid (changed_lines grid rows) (owned_in_turn live) (none_changed grid rows)))
      at begins there (omega (arith, long, length_changed grid rows))
