-- What one answer is to a flight, whether the line is on it or not.
use Rattle.std.proofs.Common.{◌≡◌, ◌==◌, ◌&&◌, ℕ, Bool, true, false, nat_le, List, [], ◌∷◌, ◌++◌, Option, Some, None, option_map, codes, if◌then◌else◌, arith, refl, ap, sym, subst, ◌∙◌}
use Rattle.seat_rules.proofs.Common.{Place, Ladders, legs_of, room, may_wait, is_listed, Booking, Status, Held, Waiting, Advice, Change, Command, SaleChange, Work, Seats, Limit, Sale, Want, Cancel, Wish, action_of, is_for, is_held, is_waiting, held, waiting, State, Outcome, state_of, room_left, reduced, booking_of, booking_for, pass, passed, want, cancel, changed_by, may_change, sales_by, may_set_sale, answer, may_confirm, confirmed, advice_of, NoneFits, renumbered, AgreeOn, NoneElseFits, is_on}
use Rattle.std.proofs.lemmas.Bool.Decides.{nat_tests}
use Rattle.seat_rules.specs.declared.action.Action.{Action}
use Rattle.seat_rules.specs.declared.action.Action.TheVariants.{Other}
use Rattle.seat_rules.specs.declared.action.Wish.TheVariants.{Need, Sell, Waitlist}
use Rattle.seat_rules.specs.Sequential.{Passed, want_new, set, set_sale, answer_to}
use Rattle.seat_rules.specs.Flights.{pass_on, is_flight, advices_anew}
use Rattle.seat_rules.proofs.Step.Outcomes.{each_outcome, grid_answer}
use Rattle.seat_rules.proofs.Step.Apart.{all_reduced}
use Rattle.seat_rules.proofs.Passes.Quiet.{all_push, all_map}
use Rattle.seat_rules.proofs.Flight.View.{view, told_on, told_append, room_view, room_over, may_wait_over, listed_agree, pass_of}
use Rattle.seat_rules.proofs.Flight.Changes.{agree_away, agree_changed, agree_sales, agree_unsold, may_change_over, may_set_over, else_changed, else_sales}
use Rattle.seat_rules.proofs.Flight.Parts.{IsTestOn, IsTestOff, pass_view, pass_none, none_among, reduced_view, reduced_same, found_anew, find_view, other_flight, view_push, view_same}

-- the test of a command, on its flight and off it
test_on : (anew : ℕ → ℕ) (f : ℕ) (locator : List ℕ) (p : Place) (class : ℕ) → p.flight ≡ f
    → IsTestOn anew f (is_for locator p class)
test_on anew f locator p class e = record {
  only = λ b h. (let P : ℕ → Type 0 = λ x. (b.place.flight == x) ≡ false in other_flight locator p class f b (subst P (sym e) h));
  whatever = λ b. refl;
}

apart : (x y f : ℕ) → (x == f) ≡ true → (y == f) ≡ false → (x == y) ≡ false
apart x y f e h = grind (arith, nat_tests)

apart_too : (x y f : ℕ) → (x == f) ≡ true → (y == f) ≡ false → (y == x) ≡ false
apart_too x y f e h = grind (arith, nat_tests)

test_off : (f : ℕ) (locator : List ℕ) (p : Place) (class : ℕ) → (p.flight == f) ≡ false
    → IsTestOff f (is_for locator p class)
test_off f locator p class e = record { never = λ b h. other_flight locator p class f b (apart b.place.flight p.flight f h e) }

-- what the flight sees of an outcome, over these limits
abbrev pub seen_over : Ladders → (ℕ → ℕ) → ℕ → Outcome → Outcome
seen_over h anew f o = record { state = state_of h (view anew f o.state.bookings); reply = o.reply; released = o.released; advices = told_on anew f o.advices }

-- and over its own
abbrev pub seen : (ℕ → ℕ) → ℕ → Outcome → Outcome
seen anew f o = seen_over o.state.grid anew f o

passed_view : (g h : Ladders) (anew : ℕ → ℕ) (f : ℕ) (bs : List Booking) (reply : List ℕ) (released : ℕ) → AgreeOn f g h
    → passed h (view anew f bs) reply released ≡ seen_over h anew f (passed g bs reply released)
passed_view g h anew f bs reply released a =
    ap (λ (p : Passed). outcome_of p) (pass_view g h anew f [] [] bs a)
  where
    outcome_of : Passed → Outcome
    outcome_of p = record { state = state_of h p.bookings; reply = reply; released = released; advices = p.advices }

-- the place of a command is on the flight
abbrev on_place : ℕ → Option Place → Bool
on_place f o = is_flight f (option_map (λ p. p.flight) o)

-- a command on the flight is answered from what the flight sees, over each grid that agrees on it, as from the whole
command_over : (g h : Ladders) (anew : ℕ → ℕ) (f : ℕ) (bookings : List Booking) (n : ℕ) (c : Command) (o : Option Place)
    → AgreeOn f g h → c.place ≡ o → on_place f o ≡ true
    → answer (state_of h (view anew f bookings)) (anew n) (Seats c)
    ≡ seen_over h anew f (answer (state_of g bookings) n (Seats c))
command_over g h anew f bookings n c None a at e = absurd cc
command_over g h anew f bookings n c (Some place) a at e =
    ap (λ (o : Option Place). answer_to (action_of c.code) o (state_of h (view anew f bookings)) (anew n) c) at
    ∙ (by_action (action_of c.code) ∙ sym (ap (λ (o : Option Place). seen_over h anew f (answer_to (action_of c.code) o (state_of g bookings) n c)) at))
  where
    s : State
    s = state_of g bookings

    v : State
    v = state_of h (view anew f bookings)

    here : place.flight ≡ f
    here = grind (arith, nat_tests)

    test : Booking → Bool
    test = is_for c.locator place c.class

    pushed : (st : Status)
        → view anew f bookings ++ booking_of (anew n) c place st ∷ []
        ≡ view anew f (bookings ++ booking_of n c place st ∷ [])
    pushed st = sym (view_push anew f bookings (booking_of n c place st) e)

    made : List ℕ → List Booking → Outcome
    made reply l = record { state = state_of h l; reply = reply; released = 0; advices = [] }

    want_if : (w : Wish) (fits listed may : Bool)
        → want_new w v (anew n) c place fits listed may ≡ seen_over h anew f (want_new w s n c place fits listed may)
    want_if Need true listed may = ap (made (codes "KK")) (pushed Held)
    want_if Need false true true = ap (made (codes "UU")) (pushed Waiting)
    want_if Need false true false = refl
    want_if Need false false may = refl
    want_if Sell true listed may = ap (made (codes "KK")) (pushed Held)
    want_if Sell false listed true = ap (made (codes "US")) (pushed Waiting)
    want_if Sell false listed false = refl
    want_if Waitlist fits listed true = ap (λ (l : List Booking). passed h l (codes "HL") 0) (pushed Waiting) ∙ passed_view g h anew f (bookings ++ booking_of n c place Waiting ∷ []) (codes "HL") 0 a
    want_if Waitlist fits listed false = refl

    by_found : (w : Wish) (o : Option Booking)
        → want w v (anew n) c place (found_anew anew o) ≡ seen_over h anew f (want w s n c place o)
    by_found w (Some b) = refl
    by_found w None =
        ap (λ x. want_new w v (anew n) c place (nat_le c.seats x) (is_listed h place c.class) (may_wait h (waiting (view anew f bookings)) place c.class c.seats)) (room_over g h anew f bookings place c.class a here)
        ∙ (ap (λ x. want_new w v (anew n) c place (nat_le c.seats (room_left s place c.class)) x (may_wait h (waiting (view anew f bookings)) place c.class c.seats)) (sym (listed_agree g h f place c.class a here))
        ∙ (ap (λ x. want_new w v (anew n) c place (nat_le c.seats (room_left s place c.class)) (is_listed g place c.class) x) (may_wait_over g h anew f bookings place c.class c.seats a here)
        ∙ want_if w (nat_le c.seats (room_left s place c.class)) (is_listed g place c.class) (may_wait g (waiting bookings) place c.class c.seats)))

    cancel_if : (b : Booking) (t : Bool) → nat_le c.seats b.seats ≡ t
        → cancel v c place (Some (renumbered anew b)) ≡ seen_over h anew f (cancel s c place (Some b))
    cancel_if b true le = rw le
        (ap (λ (l : List Booking). passed h l (codes "HX") (if is_held b.status then c.seats else 0)) (sym (reduced_view anew f test c.seats bookings (test_on anew f c.locator place c.class here)))
        ∙ passed_view g h anew f (reduced test c.seats bookings) (codes "HX") (if is_held b.status then c.seats else 0) a)
    cancel_if b false le = rw le refl

    by_held : (o : Option Booking) → cancel v c place (found_anew anew o) ≡ seen_over h anew f (cancel s c place o)
    by_held None = refl
    by_held (Some b) = cancel_if b (nat_le c.seats b.seats) refl

    by_action : (r : Action)
        → answer_to r (Some place) v (anew n) c ≡ seen_over h anew f (answer_to r (Some place) s n c)
    by_action Other = refl
    by_action (Want w) = ap (λ (o : Option Booking). want w v (anew n) c place o) (find_view anew f test bookings (test_on anew f c.locator place c.class here)) ∙ by_found w (booking_for s c place)
    by_action Cancel = ap (λ (o : Option Booking). cancel v c place o) (find_view anew f test bookings (test_on anew f c.locator place c.class here)) ∙ by_held (booking_for s c place)

-- so is a change of the flight
abbrev limits_if : Bool → Ladders → Change → Ladders
limits_if t grid c = (if t then changed_by grid c else grid)

set_if : (s : State) (c : Change) (t : Bool) → may_change s c ≡ t → (set s c).state.grid ≡ limits_if t s.grid c
set_if s c true e = rw e refl
set_if s c false e = rw e refl

set_over : (g h : Ladders) (anew : ℕ → ℕ) (f : ℕ) (bookings : List Booking) (c : Change) → AgreeOn f g h → c.flight ≡ f
    → (t : Bool) → may_change (state_of g bookings) c ≡ t
    → set (state_of h (view anew f bookings)) c ≡ seen_over (limits_if t h c) anew f (set (state_of g bookings) c)
set_over g h anew f bookings c a here true may =
    let too : may_change (state_of h (view anew f bookings)) c ≡ true = may_change_over g h anew f bookings c a here ∙ may in
    rw (may, too) (passed_view (changed_by g c) (changed_by h c) anew f bookings (codes "OK") 0 (agree_changed g h f c a))
set_over g h anew f bookings c a here false may =
    let too : may_change (state_of h (view anew f bookings)) c ≡ false = may_change_over g h anew f bookings c a here ∙ may in
    rw (may, too) refl

-- the limits after it agree on the flight as those before
agree_set : (g h : Ladders) (f : ℕ) (c : Change) (t : Bool) → AgreeOn f g h
    → AgreeOn f (limits_if t g c) (limits_if t h c)
agree_set g h f c true a = agree_changed g h f c a
agree_set g h f c false a = a

-- and a class of the flight that is closed or opened
abbrev sales_if : Bool → Ladders → SaleChange → Ladders
sales_if t grid c = (if t then sales_by grid c else grid)

sale_if : (s : State) (c : SaleChange) (t : Bool) → may_set_sale s c ≡ t → (set_sale s c).state.grid ≡ sales_if t s.grid c
sale_if s c true e = rw e refl
sale_if s c false e = rw e refl

sale_over : (g h : Ladders) (anew : ℕ → ℕ) (f : ℕ) (bookings : List Booking) (c : SaleChange) → AgreeOn f g h → c.flight ≡ f
    → (t : Bool) → may_set_sale (state_of g bookings) c ≡ t
    → set_sale (state_of h (view anew f bookings)) c ≡ seen_over (sales_if t h c) anew f (set_sale (state_of g bookings) c)
sale_over g h anew f bookings c a here true may =
    let too : may_set_sale (state_of h (view anew f bookings)) c ≡ true = may_set_over g h f bookings (view anew f bookings) c a here ∙ may in
    rw (may, too) (passed_view (sales_by g c) (sales_by h c) anew f bookings (codes "OK") 0 (agree_sales g h f c a))
sale_over g h anew f bookings c a here false may =
    let too : may_set_sale (state_of h (view anew f bookings)) c ≡ false = may_set_over g h f bookings (view anew f bookings) c a here ∙ may in
    rw (may, too) refl

agree_shut : (g h : Ladders) (f : ℕ) (c : SaleChange) (t : Bool) → AgreeOn f g h
    → AgreeOn f (sales_if t g c) (sales_if t h c)
agree_shut g h f c true a = agree_sales g h f c a
agree_shut g h f c false a = a

pub on_sale : (f : ℕ) (c : SaleChange) → is_on f (Sale c) ≡ true → c.flight ≡ f
on_sale f c e = grind (arith, nat_tests)

pub on_flight : (f : ℕ) (c : Change) → is_on f (Limit c) ≡ true → c.flight ≡ f
on_flight f c e = grind (arith, nat_tests)

-- what the flight sees of an outcome of the whole is this one, over limits that agree with the whole's on it
pub record IsSeen (anew : ℕ → ℕ) (f : ℕ) (whole part : Outcome) : Type 0 where
  pub agree : AgreeOn f whole.state.grid part.state.grid
  pub is : part ≡ seen_over part.state.grid anew f whole

same_legs : (f : ℕ) (g h : Ladders) → g ≡ h → AgreeOn f g h
same_legs f g h e = ap (λ (x : Ladders). legs_of x f) e

-- a line on the flight is answered from what the flight sees, over each grid that agrees on it, as from the whole
pub answer_over : (g h : Ladders) (anew : ℕ → ℕ) (f : ℕ) (bookings : List Booking) (n : ℕ) (w : Work) → AgreeOn f g h
    → is_on f w ≡ true
    → IsSeen anew f (answer (state_of g bookings) n w) (answer (state_of h (view anew f bookings)) (anew n) w)
answer_over g h anew f bookings n (Seats c) a e = record {
  agree = same_legs f _ _ (grid_answer (state_of g bookings) n c) ∙ (a ∙ sym (same_legs f _ _ (grid_answer (state_of h (view anew f bookings)) (anew n) c)));
  is = command_over g h anew f bookings n c c.place a refl e ∙ ap (λ (x : Ladders). seen_over x anew f (answer (state_of g bookings) n (Seats c))) (sym (grid_answer (state_of h (view anew f bookings)) (anew n) c));
}
answer_over g h anew f bookings n (Limit c) a e = record {
  agree = same_legs f _ _ whole ∙ (agree_set g h f c (may_change (state_of g bookings) c) a ∙ sym (same_legs f _ _ part));
  is = set_over g h anew f bookings c a (on_flight f c e) (may_change (state_of g bookings) c) refl ∙ ap (λ (x : Ladders). seen_over x anew f (set (state_of g bookings) c)) (sym part);
}
  where
    whole : (set (state_of g bookings) c).state.grid ≡ limits_if (may_change (state_of g bookings) c) g c
    whole = set_if (state_of g bookings) c (may_change (state_of g bookings) c) refl

    part : (set (state_of h (view anew f bookings)) c).state.grid ≡ limits_if (may_change (state_of g bookings) c) h c
    part = set_if (state_of h (view anew f bookings)) c (may_change (state_of g bookings) c) (may_change_over g h anew f bookings c a (on_flight f c e))
answer_over g h anew f bookings n (Sale c) a e = record {
  agree = same_legs f _ _ whole ∙ (agree_shut g h f c (may_set_sale (state_of g bookings) c) a ∙ sym (same_legs f _ _ part));
  is = sale_over g h anew f bookings c a (on_sale f c e) (may_set_sale (state_of g bookings) c) refl ∙ ap (λ (x : Ladders). seen_over x anew f (set_sale (state_of g bookings) c)) (sym part);
}
  where
    whole : (set_sale (state_of g bookings) c).state.grid ≡ sales_if (may_set_sale (state_of g bookings) c) g c
    whole = sale_if (state_of g bookings) c (may_set_sale (state_of g bookings) c) refl

    part : (set_sale (state_of h (view anew f bookings)) c).state.grid ≡ sales_if (may_set_sale (state_of g bookings) c) h c
    part = sale_if (state_of h (view anew f bookings)) c (may_set_sale (state_of g bookings) c) (may_set_over g h f bookings (view anew f bookings) c a (on_sale f c e))

-- and over its own limits
pub answer_on : (grid : Ladders) (anew : ℕ → ℕ) (f : ℕ) (bookings : List Booking) (n : ℕ) (w : Work) → is_on f w ≡ true
    → answer (state_of grid (view anew f bookings)) (anew n) w ≡ seen anew f (answer (state_of grid bookings) n w)
answer_on grid anew f bookings n (Seats c) e =
    command_over grid grid anew f bookings n c c.place refl refl e
    ∙ ap (λ (g : Ladders). seen_over g anew f (answer (state_of grid bookings) n (Seats c))) (sym (grid_answer (state_of grid bookings) n c))
answer_on grid anew f bookings n (Limit c) e =
    set_over grid grid anew f bookings c refl (on_flight f c e) (may_change (state_of grid bookings) c) refl
    ∙ ap (λ (g : Ladders). seen_over g anew f (set (state_of grid bookings) c)) (sym (set_if (state_of grid bookings) c (may_change (state_of grid bookings) c) refl))
answer_on grid anew f bookings n (Sale c) e =
    sale_over grid grid anew f bookings c refl (on_sale f c e) (may_set_sale (state_of grid bookings) c) refl
    ∙ ap (λ (g : Ladders). seen_over g anew f (set_sale (state_of grid bookings) c)) (sym (sale_if (state_of grid bookings) c (may_set_sale (state_of grid bookings) c) refl))

-- a line off the flight changes nothing that the flight sees
away_from : (f : ℕ) (c : Command) (p : Place) → c.place ≡ Some p → is_on f (Seats c) ≡ false → (p.flight == f) ≡ false
away_from f c p at off = sym (ap (on_place f) at) ∙ off

here_on : (f : ℕ) (c : Command) (p : Place) → c.place ≡ Some p → is_on f (Seats c) ≡ true → (p.flight == f) ≡ true
here_on f c p at on = sym (ap (on_place f) at) ∙ on

quiet_view : (g grid : Ladders) (anew : ℕ → ℕ) (f : ℕ) (bookings l : List Booking) → AgreeOn f g grid
    → NoneFits grid bookings → view anew f l ≡ view anew f bookings
    → view anew f (pass g [] [] l).bookings ≡ view anew f bookings
quiet_view g grid anew f bookings l agree a e =
    ap (λ (p : Passed). p.bookings) (sym (pass_view g grid anew f [] [] l agree))
    ∙ (ap (λ (x : List Booking). (pass grid [] [] x).bookings) e
    ∙ ap (λ (p : Passed). p.bookings) (pass_none grid [] [] (view anew f bookings) (none_among grid anew f bookings bookings a)))

pub answer_off : (grid : Ladders) (anew : ℕ → ℕ) (f : ℕ) (bookings : List Booking) (n : ℕ) (w : Work)
    → is_on f w ≡ false → NoneFits grid bookings
    → view anew f (answer (state_of grid bookings) n w).state.bookings ≡ view anew f bookings
answer_off grid anew f bookings n w off a =
    each_outcome (λ w o. is_on f w ≡ false → view anew f o.state.bookings ≡ view anew f bookings) (state_of grid bookings) n
    (λ w r off. refl)
    (λ c p at none fits off. view_same anew f bookings (booking_of n c p Held) (away_from f c p at off))
    (λ c p at none over why off. view_same anew f bookings (booking_of n c p Waiting) (away_from f c p at off))
    (λ c p at none off. quiet_view grid grid anew f bookings (bookings ++ booking_of n c p Waiting ∷ []) refl a (view_same anew f bookings (booking_of n c p Waiting) (away_from f c p at off)))
    (λ c p b at found le off. quiet_view grid grid anew f bookings (reduced (is_for c.locator p c.class) c.seats bookings) refl a
    (reduced_same anew f (is_for c.locator p c.class) c.seats bookings (test_off f c.locator p c.class (away_from f c p at off))))
    (λ c may off. quiet_view (changed_by grid c) grid anew f bookings bookings (agree_away grid f c off) a refl)
    (λ c may off. quiet_view (sales_by grid c) grid anew f bookings bookings (agree_unsold grid f c off) a refl)
    w off

-- nor its ladders
pub limits_off : (grid : Ladders) (bookings : List Booking) (f n : ℕ) (w : Work) → is_on f w ≡ false
    → AgreeOn f (answer (state_of grid bookings) n w).state.grid grid
limits_off grid bookings f n w off =
    each_outcome (λ w o. is_on f w ≡ false → AgreeOn f o.state.grid grid) (state_of grid bookings) n
    (λ w r off. refl) (λ c p at none fits off. refl) (λ c p at none over why off. refl) (λ c p at none off. refl) (λ c p b at found le off. refl)
    (λ c may off. agree_away grid f c off)
    (λ c may off. agree_unsold grid f c off)
    w off

-- a booking of a flight whose bookings are the same fits as before
same_fit : (grid : Ladders) (old new : List Booking) (b : Booking)
    → view (λ n. n) b.place.flight new ≡ view (λ n. n) b.place.flight old
    → may_confirm grid new b ≡ may_confirm grid old b
same_fit grid old new b e =
    ap (λ r. is_waiting b.status && nat_le b.seats r)
    (sym (room_view grid (λ n. n) b.place.flight new b.place b.class refl)
    ∙ (ap (λ (l : List Booking). room grid (held l) b.place b.class) e ∙ room_view grid (λ n. n) b.place.flight old b.place b.class refl))

pub else_push : (grid : Ladders) (f : ℕ) (bookings : List Booking) (b : Booking) → NoneFits grid bookings
    → (b.place.flight == f) ≡ true
    → NoneElseFits f grid (bookings ++ b ∷ []) (bookings ++ b ∷ [])
else_push grid f bookings b a here =
    all_push (λ x. (x.place.flight == f) ≡ false → may_confirm grid (bookings ++ b ∷ []) x ≡ false) bookings b
    (all_map (λ x. may_confirm grid bookings x ≡ false) (λ x. (x.place.flight == f) ≡ false → may_confirm grid (bookings ++ b ∷ []) x ≡ false) bookings
    (λ x no away. same_fit grid bookings (bookings ++ b ∷ []) x (view_same (λ n. n) x.place.flight bookings b (apart b.place.flight x.place.flight f here away)) ∙ no) a)
    (λ away. absurd cc)

pub else_reduced : (grid : Ladders) (f : ℕ) (bookings : List Booking) (locator : List ℕ) (p : Place) (class n : ℕ)
    → NoneFits grid bookings → (p.flight == f) ≡ true
    → NoneElseFits f grid (reduced (is_for locator p class) n bookings) (reduced (is_for locator p class) n bookings)
else_reduced grid f bookings locator p class n a here =
    all_reduced (λ x. (x.place.flight == f) ≡ false → may_confirm grid (reduced (is_for locator p class) n bookings) x ≡ false) (is_for locator p class) n bookings
    (λ b pass no away. clash b pass away)
    (all_map (λ x. may_confirm grid bookings x ≡ false) (λ x. (x.place.flight == f) ≡ false → may_confirm grid (reduced (is_for locator p class) n bookings) x ≡ false) bookings
    (λ x no away. same_fit grid bookings (reduced (is_for locator p class) n bookings) x
    (reduced_same (λ n. n) x.place.flight (is_for locator p class) n bookings (test_off x.place.flight locator p class (apart p.flight x.place.flight f here away))) ∙ no) a)
  where
    clash : {X : Type 0} (b : Booking) → is_for locator p class b ≡ true → (b.place.flight == f) ≡ false → X
    clash b is away =
        let no : is_for locator p class b ≡ false = other_flight locator p class f b (apart_too p.flight b.place.flight f here away) in
        absurd cc

anew_append : (anew : ℕ → ℕ) (xs ys : List Advice)
    → advices_anew anew (xs ++ ys) ≡ advices_anew anew xs ++ advices_anew anew ys
anew_append anew [] ys = refl
anew_append anew (a ∷ xs) ys = rw (anew_append anew xs ys) refl

-- the pass over one flight tells that flight alone
told_pass : (grid : Ladders) (anew : ℕ → ℕ) (f : ℕ) (done : List Booking) (told : List Advice) (bs : List Booking)
    → told_on anew f told ≡ advices_anew anew told
    → told_on anew f (pass_on f grid done told bs).advices ≡ advices_anew anew (pass_on f grid done told bs).advices
told_pass grid anew f done told [] h = h
told_pass grid anew f done told (b ∷ bs) h =
    cases (b.place.flight == f) (may_confirm grid (done ++ b ∷ bs) b) refl refl
    (λ (x : Booking) (t : List Advice) (k : told_on anew f t ≡ advices_anew anew t). told_pass grid anew f (done ++ x ∷ []) t bs k)
  where
    push : (told : List Advice) → (b.place.flight == f) ≡ true → told_on anew f told ≡ advices_anew anew told
        → told_on anew f (told ++ advice_of b ∷ []) ≡ advices_anew anew (told ++ advice_of b ∷ [])
    push told e h = told_append anew f told (advice_of b ∷ []) ∙ (ap (λ (x : List Advice). x ++ told_on anew f (advice_of b ∷ [])) h ∙ (rw e refl ∙ sym (anew_append anew told (advice_of b ∷ []))))

    cases : (t u : Bool) → (b.place.flight == f) ≡ t → may_confirm grid (done ++ b ∷ bs) b ≡ u
        → ((x : Booking) (t : List Advice) → told_on anew f t ≡ advices_anew anew t
        → told_on anew f (pass_on f grid (done ++ x ∷ []) t bs).advices
        ≡ advices_anew anew (pass_on f grid (done ++ x ∷ []) t bs).advices)
        → told_on anew f (pass_on f grid done told (b ∷ bs)).advices
        ≡ advices_anew anew (pass_on f grid done told (b ∷ bs)).advices
    cases true true e may rest = rw (e, may) (rest (confirmed b) (told ++ advice_of b ∷ []) (push told e h))
    cases true false e may rest = rw (e, may) (rest b told h)
    cases false u e may rest = rw e (rest b told h)

-- an answer to a line on the flight advises the flight alone
pub advices_on : (grid : Ladders) (anew : ℕ → ℕ) (f : ℕ) (bookings : List Booking) (n : ℕ) (w : Work) → is_on f w ≡ true
    → NoneFits grid bookings
    → told_on anew f (answer (state_of grid bookings) n w).advices
    ≡ advices_anew anew (answer (state_of grid bookings) n w).advices
advices_on grid anew f bookings n w on a =
    each_outcome (λ w o. is_on f w ≡ true → told_on anew f o.advices ≡ advices_anew anew o.advices) (state_of grid bookings) n
    (λ w r on. refl) (λ c p at none fits on. refl) (λ c p at none over why on. refl)
    (λ c p at none on. quiet grid (bookings ++ booking_of n c p Waiting ∷ []) (else_push grid f bookings (booking_of n c p Waiting) a (here_on f c p at on)))
    (λ c p b at found le on. quiet grid (reduced (is_for c.locator p c.class) c.seats bookings) (else_reduced grid f bookings c.locator p c.class c.seats a (here_on f c p at on)))
    (λ c may on. quiet (changed_by grid c) bookings (else_changed grid f bookings c a on))
    (λ c may on. quiet (sales_by grid c) bookings (else_sales grid f bookings c a on))
    w on
  where
    quiet : (g : Ladders) (l : List Booking) → NoneElseFits f g l l
        → told_on anew f (pass g [] [] l).advices ≡ advices_anew anew (pass g [] [] l).advices
    quiet g l k =
        let P : Passed → Type 0 = λ p. told_on anew f p.advices ≡ advices_anew anew p.advices in
        subst P (sym (pass_of f g [] [] l k)) (told_pass g anew f [] [] l refl)
