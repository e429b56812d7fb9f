-- What a line is answered from.
use Rattle.std.proofs.Common.{◌≡◌, ◌==◌, ◌&&◌, ℕ, zero, suc, ◌+◌, ◌-◌, ◌<◌, ◌≤◌, Bool, true, false, nat_le, List, [], ◌∷◌, ◌++◌, length, find, position, Option, Some, None, IfSome, Result, IfOk, codes, if◌then◌else◌, arith, refl, ap, sym, subst, ◌∙◌}
use Rattle.std.specs.List.{AllByRecursion}
use Rattle.std.proofs.lemmas.Result.{IfOk-weaker}
use Rattle.std.proofs.lemmas.Bool.Decides.{nat_tests}
use Rattle.std.proofs.lemmas.List.Quantifiers.{position-Some}
use Rattle.airline_base.specs.declared.place.Place.{Place}
use Rattle.seat_nesting.specs.Nesting.{Ladders, Table, ByClass, Fits, room, may_wait, ladder_at, each_leg, seats_at}
use Rattle.seat_nesting.specs.Counting.{Counted, limits_of, table_of, holds, leg_holds}
use Rattle.seat_nesting.specs.Changing.{can_set, may_have}
use Rattle.seat_rules.specs.declared.action.Wish.TheVariants.{Need}
use Rattle.seat_rules.specs.declared.booking.Booking.{Booking}
use Rattle.seat_rules.specs.declared.booking.Status.TheVariants.{Held, Waiting}
use Rattle.seat_bookings.specs.declared.books.FlightBook.{FlightBook}
use Rattle.seat_journal.specs.declared.entry.Advice.{Advice}
use Rattle.seat_journal.specs.declared.entry.Change.{Change}
use Rattle.seat_journal.specs.declared.entry.Command.{Command}
use Rattle.seat_journal.specs.declared.entry.Work.{Work}
use Rattle.seat_journal.specs.declared.entry.Work.TheVariants.{Seats, Limit, Sale}
use Rattle.seat_journal.specs.declared.entry.Entry.{Entry}
use Rattle.seat_core.specs.Answers.{CanAnswerWork, CountsFlight, Says, rest_advised}
use Rattle.seat_core.specs.declared.reply.Answer.{Answer}
use Rattle.seat_rules.specs.Tables.{Lacks, advices_by, with_advice}
use Rattle.seat_rules.specs.Bookings.{is_for, is_held, is_waiting, held, waiting, seats_on}
use Rattle.seat_bookings.specs.Books.{book_at, book_of, queue_at, IsOfReplay}
use Rattle.seat_rules.specs.Flights.{bookings_on}
use Rattle.seat_rules.specs.Journal.{replay, next_line, FitsWork}
use Rattle.seat_bookings.specs.Queues.{queue_of, first_waits}
use Rattle.seat_rules.specs.Sequential.{State, Outcome, answer, state_of, want_new, refused, may_change, pass, reduced, advice_of, booking_of, may_confirm, NoneFits, NoneFitsAmong}
use Rattle.seat_rules.specs.Showing.{given_back}
use Rattle.seat_rules.proofs.Filters.{all_pass, each_passes, sum_pass}
use Rattle.seat_rules.proofs.Flight.View.{room_same, may_wait_same, room_of_flight, held_view, bookings_view, each_leg_same}
use Rattle.seat_bookings.proofs.Kept.Books.{few_in_book, kept_queued, same_answer, SameAnswer}
use Rattle.seat_bookings.proofs.Waitlists.Queue.{waiting_queue, reduced_holds}
use Rattle.seat_rules.proofs.Step.Found.{find_some}
use Rattle.seat_rules.proofs.Passes.Quiet.{room_less}
use Rattle.seat_rules.proofs.Counters.Shown.{held_waits, cancel_shown, give_none, lacks_replay}
use Rattle.seat_rules.proofs.Passes.ByTable.{pass_is_by_table, is_for_facts}
use Rattle.seat_rules.proofs.Passes.Weights.{found_passes}
use Rattle.seat_rules.proofs.History.Faults.{nat_same}

-- ---- rooms and waiting lists

-- the room of a place is that of its flight's bookings
pub room_is : (counts : Counted) (books : List FlightBook) (p : Place) (class : ℕ) → CountsFlight counts books p.flight
    → room (limits_of counts) (table_of counts) p class
    ≡ room (limits_of counts) (held (book_at books p.flight)) p class
room_is counts books p class h = room_same (limits_of counts) (table_of counts) (held (book_at books p.flight)) p class h.seats

-- and what may wait there rests on its waiting list
pub may_wait_is : (limits : Ladders) (xs ys : List Booking) (p : Place) (class n : ℕ) → ys ≡ queue_of xs
    → may_wait limits (waiting ys) p class n ≡ may_wait limits (waiting xs) p class n
may_wait_is limits xs ys p class n is =
    ap (λ (l : List Booking). may_wait limits (waiting l) p class n) is ∙ may_wait_same limits (waiting (queue_of xs)) (waiting xs) p class n (λ l. waiting_queue xs p.flight l class)

-- whether so many seats fit, by the counters
pub fits_yes : (counts : Counted) (books : List FlightBook) (p : Place) (class n r : ℕ)
    → CountsFlight counts books p.flight → r ≡ room (limits_of counts) (table_of counts) p class → n ≤ r
    → nat_le n (room (limits_of counts) (held (book_at books p.flight)) p class) ≡ true
fits_yes counts books p class n r h is le =
    let test : nat_le n r ≡ true = grind (arith, nat_tests) in
    ap (nat_le n) (sym (room_is counts books p class h) ∙ sym is) ∙ test

pub fits_no : (counts : Counted) (books : List FlightBook) (p : Place) (class n r : ℕ)
    → CountsFlight counts books p.flight → r ≡ room (limits_of counts) (table_of counts) p class → r < n
    → nat_le n (room (limits_of counts) (held (book_at books p.flight)) p class) ≡ false
fits_no counts books p class n r h is lt =
    let test : nat_le n r ≡ false = grind (arith, nat_tests) in
    ap (nat_le n) (sym (room_is counts books p class h) ∙ sym is) ∙ test

-- ---- a booking that waits

-- a pass where none fits but the last
by_quiet : (grid : Ladders) (book xs ys : List Booking) → NoneFitsAmong grid book xs
    → advices_by grid (held book) (xs ++ ys) ≡ advices_by grid (held book) ys
by_quiet grid book [] ys a = refl
by_quiet grid book (x ∷ xs) ys a = rw (a.0) (by_quiet grid book xs ys a.1)

pub queued_is : (grid : Ladders) (bs : List Booking) (n : ℕ) (c : Command) (p : Place) → NoneFits grid bs
    → (pass grid [] [] (bs ++ booking_of n c p Waiting ∷ [])).advices
    ≡ (if nat_le c.seats (room grid (held bs) p c.class) then advice_of (booking_of n c p Waiting) ∷ [] else [])
queued_is grid bs n c p quiet =
    pass_is_by_table grid (bs ++ booking_of n c p Waiting ∷ [])
    ∙ (ap (λ (t : Table). advices_by grid t (bs ++ booking_of n c p Waiting ∷ [])) (held_waits bs n c p) ∙ by_quiet grid bs bs (booking_of n c p Waiting ∷ []) quiet)

-- a need that does not fit, and that is not listed, is closed
pub need_closed : (s : State) (n : ℕ) (c : Command) (p : Place) (listed may : Bool) → (listed && may) ≡ false
    → want_new Need s n c p false listed may ≡ refused s (codes "UC")
need_closed s n c p true true e = absurd cc
need_closed s n c p true false e = refl
need_closed s n c p false may e = refl

-- ---- seats that are given back

-- by a table no waiting booking fits
abbrev QuietBy : Ladders → Table → List Booking → Type 0
QuietBy grid t bs = AllByRecursion (λ b. (is_waiting b.status && nat_le b.seats (room grid t b.place b.class)) ≡ false) bs

none_told : (grid : Ladders) (t : Table) (bs : List Booking) → QuietBy grid t bs → advices_by grid t bs ≡ []
none_told grid t [] q = refl
none_told grid t (b ∷ bs) q = rw (q.0) (none_told grid t bs q.1)

over : (w : Bool) (n r s : ℕ) → s ≤ r → (w && nat_le n r) ≡ false → (w && nat_le n s) ≡ false
over false n r s le e = refl
over true n r s le e = grind (arith, nat_tests)

-- nor by one that holds more
quiet_more : (grid : Ladders) (t u : Table) (bs : List Booking) → ((f l k : ℕ) → t f l k ≤ u f l k) → QuietBy grid t bs
    → QuietBy grid u bs
quiet_more grid t u [] le q = tt
quiet_more grid t u (b ∷ bs) le q =
    (over (is_waiting b.status) b.seats (room grid t b.place b.class) (room grid u b.place b.class) (room_less grid t u b.place b.class le) q.0, quiet_more grid t u bs le q.1)

found_is : (x b : Booking) → ◌≡◌ {A = Option Booking} (Some x) (Some b) → x ≡ b
found_is x b e = cc

-- seats off a waiting booking: it alone may fit
rest_is : (grid : Ladders) (t : Table) (test : Booking → Bool) (n : ℕ) (bs : List Booking) (b : Booking)
    → QuietBy grid t bs → find test bs ≡ Some b → is_waiting b.status ≡ true
    → advices_by grid t (reduced test n bs) ≡ rest_advised (room grid t b.place b.class) b n
rest_is grid t test n [] b q found waits = absurd cc
rest_is grid t test n (x ∷ bs) b q found waits = cases (test x) refl (rest_is grid t test n bs b q.1) where
  here : (y : Booking) → is_waiting y.status ≡ true → (gone fits : Bool) → nat_le y.seats n ≡ gone
      → nat_le (y.seats - n) (room grid t y.place y.class) ≡ fits
      → advices_by grid t (if nat_le y.seats n then bs else record y { seats = y.seats - n } ∷ bs)
      ≡ rest_advised (room grid t y.place y.class) y n
  here y w true fits g e = rw g (none_told grid t bs q.1)
  here y w false true g e =
      let rest : Booking = record y { seats = y.seats - n } in
      rw (g, w, e) (ap (λ (l : List Advice). advice_of rest ∷ l) (none_told grid (with_advice t (advice_of rest)) bs (quiet_more grid t (with_advice t (advice_of rest)) bs (λ f l k. omega arith) q.1)))
  here y w false false g e = rw (g, w, e) (none_told grid t bs q.1)

  cases : (m : Bool) → test x ≡ m
      → (find test bs ≡ Some b → is_waiting b.status ≡ true → advices_by grid t (reduced test n bs)
      ≡ rest_advised (room grid t b.place b.class) b n)
      → advices_by grid t (reduced test n (x ∷ bs)) ≡ rest_advised (room grid t b.place b.class) b n
  cases true m rest =
      let first : ◌≡◌ {A = Option Booking} (Some x) (Some b) = rw m at found in
      let is : x ≡ b = found_is x b first in
      let P : Booking → Type 0 = λ y. advices_by grid t (if nat_le y.seats n then bs else record y { seats = y.seats - n } ∷ bs) ≡ rest_advised (room grid t y.place y.class) y n in
      let whole : advices_by grid t (if nat_le x.seats n then bs else record x { seats = x.seats - n } ∷ bs) ≡ rest_advised (room grid t b.place b.class) b n =
      (let Q : Booking → Type 0 = λ y. advices_by grid t (if nat_le y.seats n then bs else record y { seats = y.seats - n } ∷ bs) ≡ rest_advised (room grid t b.place b.class) b n in
      subst Q (sym is) (here b waits (nat_le b.seats n) (nat_le (b.seats - n) (room grid t b.place b.class)) refl refl)) in
      rw m whole
  cases false m rest =
      let later : find test bs ≡ Some b = rw m at found in
      rw (m, q.0) (rest later waits)

-- a pass looks at waiting bookings alone
advices_queue : (grid : Ladders) (t : Table) (bs : List Booking)
    → advices_by grid t bs ≡ advices_by grid t (queue_of bs)
advices_queue grid t [] = refl
advices_queue grid t (b ∷ bs) = cases (is_waiting b.status) refl (λ (u : Table). advices_queue grid u bs) where
  cases : (w : Bool) → is_waiting b.status ≡ w → ((u : Table) → advices_by grid u bs ≡ advices_by grid u (queue_of bs))
      → advices_by grid t (b ∷ bs) ≡ advices_by grid t (queue_of (b ∷ bs))
  cases true e rest = rw e (fits (nat_le b.seats (room grid t b.place b.class)) refl) where
    fits : (m : Bool) → nat_le b.seats (room grid t b.place b.class) ≡ m
        → (if nat_le b.seats (room grid t b.place b.class) then advice_of b
        ∷ advices_by grid (with_advice t (advice_of b)) bs else advices_by grid t bs)
        ≡ (if is_waiting b.status && nat_le b.seats (room grid t b.place b.class) then advice_of b ∷ advices_by grid (with_advice t (advice_of b)) (queue_of bs) else advices_by grid t (queue_of bs))
    fits true m = rw (e, m) (ap (λ (l : List Advice). advice_of b ∷ l) (rest (with_advice t (advice_of b))))
    fits false m = rw (e, m) (rest t)
  cases false e rest = rw e (rest t)

-- and, on one flight, at the flight's seats alone
abbrev SameOn : ℕ → Table → Table → Type 0
SameOn f t u = (l k : ℕ) → t f l k ≡ u f l k

advices_same : (grid : Ladders) (f : ℕ) (t u : Table) (bs : List Booking) → AllByRecursion (λ b. b.place.flight ≡ f) bs
    → SameOn f t u → advices_by grid t bs ≡ advices_by grid u bs
advices_same grid f t u [] on same = refl
advices_same grid f t u (b ∷ bs) on same =
    cases (is_waiting b.status && nat_le b.seats (room grid u b.place b.class)) refl (λ (x y : Table) (s : SameOn f x y). advices_same grid f x y bs on.1 s)
  where
    room_here : room grid t b.place b.class ≡ room grid u b.place b.class
    room_here = room_same grid t u b.place b.class (let P : ℕ → Type 0 = λ x. SameOn x t u in subst P (sym on.0) same)

    cases : (m : Bool) → (is_waiting b.status && nat_le b.seats (room grid u b.place b.class)) ≡ m
        → ((x y : Table) → SameOn f x y → advices_by grid x bs ≡ advices_by grid y bs)
        → advices_by grid t (b ∷ bs) ≡ advices_by grid u (b ∷ bs)
    cases true e rest =
        rw (room_here, e) (ap (λ (l : List Advice). advice_of b ∷ l)
        (rest (with_advice t (advice_of b)) (with_advice u (advice_of b)) (λ l k. ap (λ x. x + seats_at b.place b.class b.seats f l k) (same l k))))
    cases false e rest = rw (room_here, e) (rest t u same)

given_same : (grid : Ladders) (t u : Table) (p : Place) (class n : ℕ) → SameOn p.flight t u
    → SameOn p.flight (given_back grid t p class n) (given_back grid u p class n)
given_same grid t u p class n same l k = cases (holds grid u p class n) refl where
  alike : holds grid t p class n ≡ holds grid u p class n
  alike =
      ap (λ (x : Bool). nat_le p.from p.to && x)
      (each_leg_same (λ leg. leg_holds (ladder_at grid p.flight leg) (t p.flight leg) class n) (λ leg. leg_holds (ladder_at grid p.flight leg) (u p.flight leg) class n) p.from (p.to - p.from)
      (λ leg. rw (same leg class) refl))

  cases : (h : Bool) → holds grid u p class n ≡ h
      → given_back grid t p class n p.flight l k ≡ given_back grid u p class n p.flight l k
  cases true e = rw (alike, e) (rw (same l k) refl)
  cases false e = rw (alike, e) (same l k)

not_waiting : (b : Booking) → is_waiting b.status ≡ false → b.status ≡ Held
not_waiting b e = is b.status refl where
  is : (s : _) → b.status ≡ s → b.status ≡ Held
  is Held h = h
  is Waiting h = absurd cc

-- whether the booking that was found waits
waits_as_found : (test : Booking → Bool) (bs : List Booking) (b : Booking) → find test bs ≡ Some b
    → first_waits test bs ≡ is_waiting b.status
waits_as_found test [] b found = absurd cc
waits_as_found test (x ∷ bs) b found = cases (test x) refl (waits_as_found test bs b) where
  cases : (m : Bool) → test x ≡ m → (find test bs ≡ Some b → first_waits test bs ≡ is_waiting b.status)
      → first_waits test (x ∷ bs) ≡ is_waiting b.status
  cases true m rest =
      let first : ◌≡◌ {A = Option Booking} (Some x) (Some b) = rw m at found in
      rw m (ap (λ (y : Booking). is_waiting y.status) (found_is x b first))
  cases false m rest = let later : find test bs ≡ Some b = rw m at found in rw m (rest later)

-- where a booking was found, one stands
pub at_inside : (test : Booking → Bool) (xs ys : List Booking) (i : ℕ) → ys ≡ xs → position test xs ≡ Some i → i < length ys
at_inside test xs ys i same found =
    let b = find_some test xs i found in
    subst (λ (l : List Booking). i < length l) (sym same) (position-Some test xs i b.0 found).0

-- a cancellation of held seats: the pass runs over the waiting list, once they are given back
pub cancel_held : (counts : Counted) (books : List FlightBook) (c : Command) (p : Place) (b : Booking)
    → CountsFlight counts books p.flight → find (is_for c.locator p c.class) (book_at books p.flight) ≡ Some b
    → p.from ≤ p.to → 1 ≤ c.seats → c.seats ≤ b.seats → is_waiting b.status ≡ false
    → (pass (limits_of counts) [] [] (reduced (is_for c.locator p c.class) c.seats (book_at books p.flight))).advices
    ≡ advices_by (limits_of counts) (given_back (limits_of counts) (table_of counts) p c.class c.seats) (queue_at books p.flight)
cancel_held counts books c p b h found order some le held_now =
    let grid : Ladders = limits_of counts in
    let bs : List Booking = book_at books p.flight in
    let test : Booking → Bool = is_for c.locator p c.class in
    let after : List Booking = reduced test c.seats bs in
    let facts = is_for_facts c.locator p c.class b (found_passes test bs b found) in
    let status : b.status ≡ Held = not_waiting b held_now in
    let whole : (if is_held b.status then c.seats else 0) ≡ c.seats = rw status refl in
    let table : given_back grid (held bs) p c.class c.seats ≡ held after =
    sym (ap (given_back grid (held bs) p c.class) whole) ∙ cancel_shown grid bs test p c.class c.seats b h.lacks order some found le facts.0 facts.1 Held status in
    let queue : queue_of after ≡ queue_at books p.flight = reduced_holds test c.seats bs (waits_as_found test bs b found ∙ held_now) ∙ sym h.queue in
    let on : AllByRecursion (λ x. x.place.flight ≡ p.flight) (queue_at books p.flight) =
    (let P : List Booking → Type 0 = λ l. AllByRecursion (λ x. x.place.flight ≡ p.flight) l in subst P (sym h.queue) (all_pass _ (λ x. x.place.flight ≡ p.flight) bs h.there)) in
    pass_is_by_table grid after
    ∙ (advices_queue grid (held after) after
    ∙ (ap (λ (l : List Booking). advices_by grid (held after) l) queue
    ∙ (ap (λ (t : Table). advices_by grid t (queue_at books p.flight)) (sym table)
    ∙ advices_same grid p.flight (given_back grid (held bs) p c.class c.seats) (given_back grid (table_of counts) p c.class c.seats) (queue_at books p.flight) on
    (given_same grid (held bs) (table_of counts) p c.class c.seats (λ l k. sym (h.seats l k))))))

-- and of seats that wait: the booking that keeps fewer may fit
pub cancel_waiting : (counts : Counted) (books : List FlightBook) (c : Command) (p : Place) (b : Booking)
    → CountsFlight counts books p.flight → find (is_for c.locator p c.class) (book_at books p.flight) ≡ Some b
    → p.from ≤ p.to → 1 ≤ c.seats → c.seats ≤ b.seats → is_waiting b.status ≡ true
    → (pass (limits_of counts) [] [] (reduced (is_for c.locator p c.class) c.seats (book_at books p.flight))).advices
    ≡ rest_advised (room (limits_of counts) (table_of counts) b.place b.class) b c.seats
cancel_waiting counts books c p b h found order some le waits =
    let grid : Ladders = limits_of counts in
    let bs : List Booking = book_at books p.flight in
    let test : Booking → Bool = is_for c.locator p c.class in
    let after : List Booking = reduced test c.seats bs in
    let facts = is_for_facts c.locator p c.class b (found_passes test bs b found) in
    let status : b.status ≡ Waiting = is_waiting_one b waits in
    let zero_seats : (if is_held b.status then c.seats else 0) ≡ 0 = rw status refl in
    let table : held bs ≡ held after =
    sym (give_none grid (held bs) p c.class)
    ∙ (sym (ap (given_back grid (held bs) p c.class) zero_seats) ∙ cancel_shown grid bs test p c.class c.seats b h.lacks order some found le facts.0 facts.1 Waiting status) in
    let same : room grid (held bs) b.place b.class ≡ room grid (table_of counts) b.place b.class =
    (let P : Place → Type 0 = λ x. room grid (held bs) x b.class ≡ room grid (table_of counts) x b.class in subst P (sym facts.0) (sym (room_is counts books p b.class h))) in
    pass_is_by_table grid after
    ∙ (ap (λ (t : Table). advices_by grid t after) (sym table)
    ∙ (rest_is grid (held bs) test c.seats bs b h.quiet found waits
    ∙ ap (λ r. rest_advised r b c.seats) same))
  where
    is_waiting_one : (b : Booking) → is_waiting b.status ≡ true → b.status ≡ Waiting
    is_waiting_one b e = is b.status refl where
      is : (s : _) → b.status ≡ s → b.status ≡ Waiting
      is Held g = absurd cc
      is Waiting g = g

-- ---- another limit

-- whether a change may be made, by the counters
pub may_is : (counts : Counted) (books : List FlightBook) (c : Change) → CountsFlight counts books c.flight
    → may_change (state_of (limits_of counts) (book_at books c.flight)) c
    ≡ can_set (limits_of counts) (table_of counts) c.flight c.leg c.class c.limit c.wait
may_is counts books c h =
    let same : table_of counts c.flight c.leg ≡ held (book_at books c.flight) c.flight c.leg = (λ i k. h.seats c.leg k i) in
    ap (λ (t : ByClass). nat_le c.wait 999 && may_have (ladder_at (limits_of counts) c.flight c.leg) t c.class c.limit) (sym same)

-- the pass under the new limits runs over the waiting list
pub changed_told : (grid : Ladders) (counts : Counted) (books : List FlightBook) (f : ℕ) → CountsFlight counts books f
    → (pass grid [] [] (book_at books f)).advices ≡ advices_by grid (table_of counts) (queue_at books f)
changed_told grid counts books f h =
    let bs : List Booking = book_at books f in
    let on : AllByRecursion (λ x. x.place.flight ≡ f) (queue_at books f) =
    (let P : List Booking → Type 0 = λ l. AllByRecursion (λ x. x.place.flight ≡ f) l in subst P (sym h.queue) (all_pass _ (λ x. x.place.flight ≡ f) bs h.there)) in
    pass_is_by_table grid bs
    ∙ (advices_queue grid (held bs) bs
    ∙ (ap (λ (l : List Booking). advices_by grid (held bs) l) (sym h.queue)
    ∙ advices_same grid f (held bs) (table_of counts) (queue_at books f) on (λ l k. sym (h.seats l k))))

-- none on the waiting list fits
pub none_queued : (counts : Counted) (books : List FlightBook) (f : ℕ) → CountsFlight counts books f
    → advices_by (limits_of counts) (table_of counts) (queue_at books f) ≡ []
none_queued counts books f h =
    sym (changed_told (limits_of counts) counts books f h)
    ∙ (pass_is_by_table (limits_of counts) (book_at books f) ∙ none_told (limits_of counts) (held (book_at books f)) (book_at books f) h.quiet)

-- ---- the flight of a place, in an inventory that is kept

quiet_on : (grid : Ladders) (f : ℕ) (bs among : List Booking) → NoneFitsAmong grid bs among
    → NoneFitsAmong grid (bookings_on f bs) (bookings_on f among)
quiet_on grid f bs [] a = tt
quiet_on grid f bs (b ∷ among) a = cases (b.place.flight == f) refl (quiet_on grid f bs among a.1) where
  here : b.place.flight ≡ f → may_confirm grid (bookings_on f bs) b ≡ false
  here e =
      let same : room grid (held bs) b.place b.class ≡ room grid (held (bookings_on f bs)) b.place b.class =
      (let P : ℕ → Type 0 = λ x. room grid (held bs) b.place b.class ≡ room grid (held (bookings_on x bs)) b.place b.class in subst P e (room_of_flight grid grid bs b.place b.class refl)) in
      let P : ℕ → Type 0 = λ r. (is_waiting b.status && nat_le b.seats r) ≡ false in
      subst P same a.0

  cases : (t : Bool) → (b.place.flight == f) ≡ t → NoneFitsAmong grid (bookings_on f bs) (bookings_on f among)
      → NoneFitsAmong grid (bookings_on f bs) (bookings_on f (b ∷ among))
  cases true e rest = rw e (here (grind (arith, nat_tests)), rest)
  cases false e rest = rw e rest

pub flight_kept : (opening : Ladders) (cap : ℕ) (journal : List Entry) (books : List FlightBook) (calls : List ℕ)
    (counts : Counted) (f : ℕ) → IsOfReplay opening cap journal books calls counts → CountsFlight counts books f
flight_kept opening cap journal books calls counts f k =
    let now : Ladders = limits_of counts in
    let bs : List Booking = (replay opening journal).bookings in
    let book : bookings_on f bs ≡ book_at books f = sym (k.by_flight f) in
    let lacks : Lacks now bs = (let P : Ladders → Type 0 = λ g. Lacks g bs in subst P (ap (λ (s : State). s.grid) k.lawful.left) (lacks_replay opening journal)) in
    record {
      few = few_in_book opening cap journal books calls counts f k;
      quiet = subst (NoneFits now) book (quiet_on now f bs bs k.lawful.quiet);
      queue = (kept_queued opening cap journal books calls counts k).each f;
      seats = λ l c. k.seats f l c
          ∙ (sym (held_view (λ n. n) f bs l c) ∙ ap (λ (x : List Booking). held x f l c) (bookings_view f bs ∙ book));
      lacks = (let Q : List Booking → Type 0 = λ l. Lacks now l in subst Q book (λ x l c missing. omega (arith, lacks x l c missing, sum_pass (λ b. b.place.flight == f) (seats_on x l c) bs)));
      there = (let P : List Booking → Type 0 = λ l. AllByRecursion (λ b. b.place.flight ≡ f) l in subst P book (each_passes _ (λ b. b.place.flight ≡ f) (λ b e. nat_same b.place.flight f e) bs));
    }

kept_flight : (opening : Ladders) (cap : ℕ) (journal : List Entry) (books : List FlightBook) (calls : List ℕ)
    (counts : Counted) (o : Option Place) → IsOfReplay opening cap journal books calls counts
    → IfSome o (λ p. CountsFlight counts books p.flight)
kept_flight opening cap journal books calls counts None k = tt
kept_flight opening cap journal books calls counts (Some p) k = flight_kept opening cap journal books calls counts p.flight k

-- its legs stand in order
in_order : (grid : Ladders) (o : Option Place) → IfSome o (Fits grid) → IfSome o (λ p. p.from ≤ p.to)
in_order grid None h = tt
in_order grid (Some p) h = h.0

-- what fits may be answered
pub asked_kept : (opening : Ladders) (cap : ℕ) (journal : List Entry) (books : List FlightBook) (calls : List ℕ)
    (counts : Counted) (w : Work) → IsOfReplay opening cap journal books calls counts → FitsWork opening w
    → CanAnswerWork counts books w
asked_kept opening cap journal books calls counts (Seats c) k fits = record {
  flight = kept_flight opening cap journal books calls counts c.place k;
  order = in_order opening c.place fits.2;
  some = fits.0;
}
asked_kept opening cap journal books calls counts (Limit c) k fits = flight_kept opening cap journal books calls counts c.flight k
asked_kept opening cap journal books calls counts (Sale c) k fits = flight_kept opening cap journal books calls counts c.flight k

-- ---- the line that is said

-- what is told, as the rule has it
pub told_as : {T E : Type 0} (items : T → List Advice) (r : Result T E) (xs ys : List Advice) → ys ≡ xs
    → IfOk r (λ t. items t ≡ xs) → IfOk r (λ t. ys ≡ items t)
told_as items r xs ys is h = IfOk-weaker r (λ t. items t ≡ xs) (λ t. ys ≡ items t) (λ t e. is ∙ sym e) h

says_same : (a b : Outcome) (n : Answer) → SameAnswer a b → Says a n → Says b n
says_same a b n same says = record {
  reply = sym same.reply ∙ says.reply;
  released = sym same.released ∙ says.released;
  advices = IfOk-weaker n.advices (λ t. a.advices ≡ t.items) (λ t. b.advices ≡ t.items) (λ t h. sym same.advices ∙ h) says.advices;
}

-- what the flight's book says is what the replay says
pub says_kept : (opening : Ladders) (cap : ℕ) (journal : List Entry) (books : List FlightBook) (calls : List ℕ)
    (counts : Counted) (book : List Booking) (n : ℕ) (w : Work) (a : Answer)
    → IsOfReplay opening cap journal books calls counts → book ≡ book_of books w → n ≡ length journal + 1
    → Says (answer (state_of (limits_of counts) book) n w) a
    → Says (answer (replay opening journal) (length journal + 1) w) a
says_kept opening cap journal books calls counts book n w a k is number says =
    let now : Ladders = limits_of counts in
    let P : List Booking → Type 0 = λ l. Says (answer (state_of now l) n w) a in
    let here : Says (answer (state_of now (book_of books w)) n w) a = subst P is says in
    let whole : Says (answer (state_of now (replay opening journal).bookings) n w) a =
    says_same (answer (state_of now (book_of books w)) n w) (answer (state_of now (replay opening journal).bookings) n w) a (same_answer opening cap journal books calls counts n w k) here in
    let Q : State → Type 0 = λ s. Says (answer s n w) a in
    let R : ℕ → Type 0 = λ m. Says (answer (replay opening journal) m w) a in
    subst R number (subst Q (sym k.lawful.left) whole)

-- the line with that answer is the next
pub line_said : (grid : Ladders) (past : List Entry) (session call : ℕ) (w : Work) (a : Answer) (told : List Advice)
    (n : ℕ) → n ≡ length past + 1 → Says (answer (replay grid past) (length past + 1) w) a
    → (answer (replay grid past) (length past + 1) w).advices ≡ told
    → ◌≡◌ {A = Entry} (record {
      number = n;
      session = session;
      call = call;
      work = w;
      reply = a.reply;
      released =
          a.released;
      advices = told;
    }) (next_line grid past session call w)
line_said grid past session call w a told n number says advices =
    λ i. record { number = number i; session = session; call = call; work = w; reply = sym says.reply i; released = sym says.released i; advices = sym advices i }
