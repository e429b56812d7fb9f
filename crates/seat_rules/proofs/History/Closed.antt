-- Between a close of a leg's class and the next open no line gives or confirms a seat there; and where none is closed nothing changes.
use Rattle.std.proofs.Common.{◌≡◌, ◌==◌, ◌&&◌, ℕ, zero, suc, ◌+◌, ◌-◌, ◌<◌, ◌≤◌, min, not, cond, Bool, true, false, nat_le, List, [], ◌∷◌, ◌++◌, length, Option, Some, None, fold, codes, if◌then◌else◌, arith, refl, ap, sym, subst, ◌∙◌, append_assoc}
use Rattle.seat_rules.proofs.Common.{AllByRecursion, sum_by, Place, Ladders, Steps, room, room_on, ladder_at, seats_at, covers, Booking, Held, Waiting, Advice, Change, Command, SaleChange, Work, Seats, Limit, Sale, Entry, is_for, is_held, is_waiting, held, State, Outcome, state_of, answer, pass, reduced, confirmed, changed_by, may_change, sales_by, may_set_sale, may_confirm, advice_of, booking_of, refused, booked, passed, replay, next_line, IsLegal}
use Rattle.std.proofs.lemmas.List.{append-nil}
use Rattle.std.proofs.lemmas.List.Sums.{fold_push, sum_by_push}
use Rattle.std.proofs.lemmas.Bool.Decides.{nat_tests}
use Rattle.std.proofs.lemmas.Bool.{eqb-true, and_parts}
use Rattle.seat_journal.specs.Text.{is_sale}
use Rattle.seat_nesting.specs.declared.ladder.Step.{Step}
use Rattle.seat_nesting.specs.Nesting.{ByClass, free_on, held_from, is_open_on, may_wait_on}
use Rattle.seat_nesting.specs.Changing.{has_named, is_named, with_limit, with_sale}
use Rattle.seat_nesting.proofs.LimitChanges.{all_with, each_ladder}
use Rattle.seat_nesting.proofs.SaleChanges.{closed_named, closed_stays, lacking_named, open_with, sale_beside, sale_here, shut_room, unnamed_stays}
use Rattle.seat_rules.specs.Closing.{advised_on, asked_at, asked_on, closes, given_on, is_shut, may_wait_unmarked, opens, shut_after, AreOpen, ClosedIsClosed, IsAsBefore, IsOpen, WithoutClosingNothingChanges}
use Rattle.seat_rules.specs.Journal.{after}
use Rattle.seat_rules.specs.Totals.{is_confirmation}
use Rattle.seat_rules.proofs.Step.Outcomes.{each_grid, each_outcome, Refusal, Listing, code_of, listing_code}
use Rattle.seat_rules.proofs.Step.Outcomes.Refusal.{No, Unable, Closed}
use Rattle.seat_rules.proofs.Step.Outcomes.Listing.{Needed, Sold}
use Rattle.seat_rules.proofs.Step.Limits.{room_le}
use Rattle.seat_rules.proofs.History.Lines.{replay_next}
use Rattle.seat_rules.proofs.History.Legal.{each_legal, legal_last, legal_prefix}
use Rattle.airline_base.proofs.Tests.{both_true}

-- the class is closed on the leg, or missing
abbrev IsShut : ℕ → ℕ → ℕ → Ladders → Type 0
IsShut f l k grid = is_open_on (ladder_at grid f l) k ≡ false

-- ---- what a line sets

-- what is neither closed nor opened stays shut
shut_sale : (f l k : ℕ) (grid : Ladders) (c : SaleChange) → opens f l k (Sale c) ≡ false → IsShut f l k grid
    → IsShut f l k (sales_by grid c)
shut_sale f l k grid c other shut = of c.closed (c.flight == f) (c.leg == l) (is_named c.class k) refl refl refl refl other
  where
    here : c.flight ≡ f → c.leg ≡ l → is_open_on (with_sale (ladder_at grid f l) c.class c.closed) k ≡ false → IsShut f l k (sales_by grid c)
    here e g h = ap (λ (s : Steps). is_open_on s k) (sale_here grid c.flight c.leg c.class c.closed f l e g) ∙ h

    of : (a b d n : Bool) → c.closed ≡ a → (c.flight == f) ≡ b → (c.leg == l) ≡ d → is_named c.class k ≡ n
        → (not a && b && d && n) ≡ false → IsShut f l k (sales_by grid c)
    of true true true n closed e g named apart =
        here (eqb-true c.flight f e) (eqb-true c.leg l g)
        (ap (λ (b : Bool). is_open_on (with_sale (ladder_at grid f l) c.class b) k) closed ∙ closed_stays (ladder_at grid f l) c.class k shut)
    of false true true true closed e g named apart = absurd cc
    of false true true false closed e g named apart =
        here (eqb-true c.flight f e) (eqb-true c.leg l g) (unnamed_stays (ladder_at grid f l) c.class c.closed k named ∙ shut)
    of a true false n closed e g named apart =
        ap (λ (s : Steps). is_open_on s k) (sale_beside grid c.flight c.leg c.class c.closed f l true false e g refl) ∙ shut
    of a false d n closed e g named apart =
        ap (λ (s : Steps). is_open_on s k) (sale_beside grid c.flight c.leg c.class c.closed f l false d e g refl) ∙ shut

shut_limit : (f l k : ℕ) (grid : Ladders) (c : Change) → IsShut f l k grid → IsShut f l k (changed_by grid c)
shut_limit f l k grid c shut =
    each_ladder (λ x y s. is_open_on s k ≡ is_open_on (ladder_at grid x y) k) grid c.flight c.leg c.class c.limit c.wait (λ x y. refl)
    (open_with (ladder_at grid c.flight c.leg) c.class c.limit c.wait k) f l ∙ shut

shut_kept : (f l k : ℕ) (s : State) (n : ℕ) (w : Work) → opens f l k w ≡ false → IsShut f l k s.grid
    → IsShut f l k (answer s n w).state.grid
shut_kept f l k s n w other shut =
    each_grid (IsShut f l k) s n w shut (λ c is may. shut_limit f l k s.grid c shut)
    (λ c is may. shut_sale f l k s.grid c (ap (opens f l k) (sym is) ∙ other) shut)

-- what a line closes is shut behind it
shut_by : (f l k : ℕ) (s : State) (n : ℕ) (w : Work) → closes f l k w ≡ true → IsShut f l k (answer s n w).state.grid
shut_by f l k s n (Seats c) h = absurd cc
shut_by f l k s n (Limit c) h = absurd cc
shut_by f l k s n (Sale c) h =
    let p = and_parts (c.closed && (c.flight == f) && (c.leg == l)) (is_named c.class k) h in
    let q = and_parts (c.closed && (c.flight == f)) (c.leg == l) p.0 in
    let r = and_parts c.closed (c.flight == f) q.0 in
    of (may_set_sale s c) refl r.0 (eqb-true c.flight f r.1) (eqb-true c.leg l q.1) p.1
  where
    of : (b : Bool) → may_set_sale s c ≡ b → c.closed ≡ true → c.flight ≡ f → c.leg ≡ l → is_named c.class k ≡ true
        → IsShut f l k (answer s n (Sale c)).state.grid
    of true may closed e g named =
        rw may (ap (λ (x : Steps). is_open_on x k) (sale_here s.grid c.flight c.leg c.class c.closed f l e g)
        ∙ ap (λ (b : Bool). is_open_on (with_sale (ladder_at s.grid f l) c.class b) k) closed ∙ closed_named (ladder_at s.grid f l) c.class k named)
    of false may closed e g named =
        let P : ℕ → ℕ → Type 0 = λ x y. has_named (ladder_at s.grid x y) c.class ≡ false in
        let lacks : has_named (ladder_at s.grid f l) c.class ≡ false = subst (P f) g (subst (λ (x : ℕ). P x c.leg) e may) in
        rw may (lacking_named (ladder_at s.grid f l) c.class k lacks named)

-- of the lines that close or open it the last closes it: then it is shut
abbrev Kept : ℕ → ℕ → ℕ → Ladders → List Entry → Type 0
Kept f l k grid journal = is_shut f l k journal ≡ true → IsShut f l k (replay grid journal).grid

kept_next : (f l k : ℕ) (grid : Ladders) (past : List Entry) (e : Entry) → Kept f l k grid past
    → Kept f l k grid (past ++ e ∷ [])
kept_next f l k grid past e h shut =
    let last : shut_after f l k (is_shut f l k past) e ≡ true = sym (fold_push (shut_after f l k) false past e) ∙ shut in
    let P : State → Type 0 = λ s. IsShut f l k s.grid in
    subst P (sym (replay_next grid past e)) (of (closes f l k e.work) (opens f l k e.work) refl refl last)
  where
    of : (a b : Bool) → closes f l k e.work ≡ a → opens f l k e.work ≡ b
        → cond a true (cond b false (is_shut f l k past)) ≡ true
        → IsShut f l k (answer (replay grid past) e.number e.work).state.grid
    of true b c o x = shut_by f l k (replay grid past) e.number e.work c
    of false true c o x = absurd cc
    of false false c o x = shut_kept f l k (replay grid past) e.number e.work o (h x)

kept_all : (f l k : ℕ) (grid : Ladders) (journal : List Entry) → IsLegal grid journal → Kept f l k grid journal
kept_all f l k grid journal legal = each_legal grid (Kept f l k grid) (λ past e l' next h. kept_next f l k grid past e h) [] journal (λ e. absurd cc) legal

-- ---- no seat is given there

shut_seats : (f l k : ℕ) (grid : Ladders) (bs : List Booking) (p : Place) (class n : ℕ) → IsShut f l k grid
    → n ≤ room grid (held bs) p class → seats_at p class n f l k ≡ 0
shut_seats f l k grid bs p class n shut le = cases (covers f l p) (class == k) refl refl where
  cases : (t u : Bool) → covers f l p ≡ t → (class == k) ≡ u → seats_at p class n f l k ≡ 0
  cases true true e g =
      let same : class ≡ k = eqb-true class k g in
      let none : room_on (ladder_at grid f l) (held bs f l) class ≡ 0 =
      ap (room_on (ladder_at grid f l) (held bs f l)) same ∙ shut_room (ladder_at grid f l) (held bs f l) k shut in
      rw (e, g) (omega (arith, le, none, room_le grid bs p class f l e))
  cases true false e g = rw (e, g) refl
  cases false u e g = rw e refl

shut_pass : (f l k : ℕ) (grid : Ladders) → IsShut f l k grid → (done : List Booking) (told : List Advice) (bs : List Booking)
    → advised_on f l k told ≡ 0 → advised_on f l k (pass grid done told bs).advices ≡ 0
shut_pass f l k grid shut done told [] none = none
shut_pass f l k grid shut done told (b ∷ bs) none =
    cases (may_confirm grid (done ++ b ∷ bs) b) refl (λ (x : Booking) (t : List Advice). shut_pass f l k grid shut (done ++ x ∷ []) t bs)
  where
    cases : (m : Bool) → may_confirm grid (done ++ b ∷ bs) b ≡ m
        → ((x : Booking) (t : List Advice) → advised_on f l k t ≡ 0 → advised_on f l k (pass grid (done ++ x ∷ []) t bs).advices ≡ 0)
        → advised_on f l k (pass grid done told (b ∷ bs)).advices ≡ 0
    cases true may rest =
        let fits : b.seats ≤ room grid (held (done ++ b ∷ bs)) b.place b.class =
        (let e = (both_true (is_waiting b.status) (nat_le b.seats (room grid (held (done ++ b ∷ bs)) b.place b.class)) may).1 in grind (arith, nat_tests)) in
        let seats = shut_seats f l k grid (done ++ b ∷ bs) b.place b.class b.seats shut fits in
        let more : advised_on f l k (told ++ advice_of b ∷ []) ≡ 0 =
        omega (arith, none, seats, sum_by_push (λ (a : Advice). seats_at a.place a.class a.seats f l k) told (advice_of b)) in
        rw may (rest (confirmed b) (told ++ advice_of b ∷ []) more)
    cases false may rest = rw may (rest b told none)

-- what an outcome gives there
abbrev Gives : ℕ → ℕ → ℕ → Work → Outcome → Type 0
Gives f l k w o = (if is_confirmation o.reply then asked_on f l k w else 0) + advised_on f l k o.advices ≡ 0

none_given : (f l k : ℕ) (s : State) (n : ℕ) (w : Work) → IsShut f l k s.grid → opens f l k w ≡ false
    → Gives f l k w (answer s n w)
none_given f l k s n w shut other =
    each_outcome (λ v o. opens f l k v ≡ false → Gives f l k v o) s n
    (λ v r o. refuses v r)
    (λ c place at none fits o. let given : asked_at c.place c.class c.seats f l k ≡ 0 =
    ap (λ (x : Option Place). asked_at x c.class c.seats f l k) at ∙ shut_seats f l k s.grid s.bookings place c.class c.seats shut fits in omega (arith, given))
    (λ c place at none over why o. waits c place why)
    (λ c place at none o. told s.grid shut (s.bookings ++ booking_of n c place Waiting ∷ []))
    (λ c place b at found le o. told s.grid shut (reduced (is_for c.locator place c.class) c.seats s.bookings))
    (λ c may o. told (changed_by s.grid c) (shut_limit f l k s.grid c shut) s.bookings)
    (λ c may o. told (sales_by s.grid c) (shut_sale f l k s.grid c o shut) s.bookings)
    w other
  where
    refuses : (v : Work) (r : Refusal) → Gives f l k v (refused s (code_of r))
    refuses v No = omega arith
    refuses v Unable = omega arith
    refuses v Closed = omega arith

    waits : (c : Command) (place : Place) (why : Listing)
        → Gives f l k (Seats c) (booked s (booking_of n c place Waiting) (listing_code why))
    waits c place Needed = omega arith
    waits c place Sold = omega arith

    told : (grid : Ladders) → IsShut f l k grid → (bs : List Booking) → 0 + advised_on f l k (pass grid [] [] bs).advices ≡ 0
    told grid is bs = let none = shut_pass f l k grid is [] [] bs refl in omega (arith, none)

pub closed_is_closed : ClosedIsClosed
closed_is_closed = λ grid past e f l k legal shut other.
    let before : IsLegal grid past = legal_prefix grid past (past ++ e ∷ []) (record { rest = e ∷ []; is = refl }) legal in
    let next = legal_last grid past e legal in
    let now = kept_all f l k grid past before shut in
    let given = none_given f l k (replay grid past) (length past + 1) e.work now other in
    ap (given_on f l k) next.line ∙ given

-- ---- where none is closed

abbrev IsPlainStep : Step → Type 0
IsPlainStep s = s.closed ≡ false

rooms_before : (steps : Steps) → AreOpen steps → (seats : ByClass) (class : ℕ) → room_on steps seats class ≡ free_on steps seats class
rooms_before [] clear seats class = refl
rooms_before (s ∷ lower) clear seats class = rw (clear.0, rooms_before lower clear.1 seats class) refl

waits_before : (steps : Steps) → AreOpen steps → (waiting : ByClass) (class n : ℕ)
    → may_wait_on steps waiting class n ≡ may_wait_unmarked steps waiting class n
waits_before [] clear waiting class n = refl
waits_before (s ∷ lower) clear waiting class n = rw (clear.0, waits_before lower clear.1 waiting class n) refl

open_limit : (grid : Ladders) (c : Change) → IsOpen grid → IsOpen (changed_by grid c)
open_limit grid c clear =
    each_ladder (λ x y s. AreOpen s) grid c.flight c.leg c.class c.limit c.wait clear
    (all_with IsPlainStep (ladder_at grid c.flight c.leg) c.class c.limit c.wait (λ s e. e) (clear c.flight c.leg))

no_sale_is : (w : Work) (c : SaleChange) → is_sale w ≡ false → w ≡ Sale c → ⊥
no_sale_is w c plain is = let no : true ≡ false = ap is_sale (sym is) ∙ plain in cc

open_answer : (s : State) (n : ℕ) (w : Work) → is_sale w ≡ false → IsOpen s.grid → IsOpen (answer s n w).state.grid
open_answer s n w plain clear =
    each_grid IsOpen s n w clear (λ c is may. open_limit s.grid c clear) (λ c is may. absurd (no_sale_is w c plain is))

open_after : (s : State) → IsOpen s.grid → (journal : List Entry) → AllByRecursion (λ e. is_sale e.work ≡ false) journal
    → IsOpen (fold after s journal).grid
open_after s clear [] all = clear
open_after s clear (e ∷ es) all = open_after (after s e) (open_answer s e.number e.work all.0 clear) es all.1

pub without_closing : WithoutClosingNothingChanges
without_closing = λ grid journal flight leg clear all.
    let here = open_after (state_of grid []) clear journal all flight leg in
    let steps = ladder_at (replay grid journal).grid flight leg in
    record { rooms = rooms_before steps here; waits = waits_before steps here }
