-- One booking asked for anew: SS is held where it fits, LL waits where it may, and a pass follows.
use Rattle.std.proofs.Common.{◌≡◌, ℕ, ◌+◌, ◌≤◌, Bool, true, false, nat_le, find, List, [], ◌∷◌, ◌++◌, length, Some, None, arith, refl, ap, sym, subst}
use Rattle.std.proofs.lemmas.Bool.Decides.{nat_tests}
use Rattle.std.proofs.lemmas.List.Sums.{sum_by-cons}
use Rattle.std.specs.List.{AllByRecursion}
use Rattle.airline_base.specs.declared.place.Place.{Place}
use Rattle.seat_journal.specs.declared.entry.Command.{Command}
use Rattle.seat_journal.specs.declared.entry.Work.TheVariants.{Seats}
use Rattle.seat_nesting.specs.Nesting.{Ladders, may_wait, room}
use Rattle.seat_rules.specs.declared.booking.Booking.{Booking}
use Rattle.seat_rules.specs.declared.booking.Status.{Status}
use Rattle.seat_rules.specs.declared.booking.Status.TheVariants.{Held, Waiting}
use Rattle.seat_rules.specs.Bookings.{Differs, held, is_for, waiting, waits_on}
use Rattle.seat_rules.specs.Sequential.{State, answer, confirmed, pass, state_of}
use Rattle.seat_rules.proofs.Step.Limits.{each_pass}
use Rattle.seat_carrying.specs.Carrying.{AreCarried, IsCarried, anew, asked_from, code_for, command_for}

-- the command and the booking of these words
abbrev pub ask_for : List ℕ → Place → ℕ → ℕ → Status → Command
ask_for locator place class seats status =
    record { locator = locator; place = Some place; class = class; code = code_for status; seats = seats }

abbrev pub booking_with : ℕ → List ℕ → Place → ℕ → ℕ → Status → Booking
booking_with number locator place class seats status =
    record { number = number; locator = locator; place = place; class = class; seats = seats; status = status }

sold_plain : (grid : Ladders) (done : List Booking) (n : ℕ) (locator : List ℕ) (place : Place) (class seats : ℕ)
    → find (is_for locator place class) done ≡ None → nat_le seats (room grid (held done) place class) ≡ true
    → (answer (state_of grid done) n (Seats (ask_for locator place class seats Held))).state
    ≡ state_of grid (done ++ booking_with n locator place class seats Held ∷ [])
sold_plain grid done n locator place class seats none fits = rw (none, fits) refl

listed_plain : (grid : Ladders) (done : List Booking) (n : ℕ) (locator : List ℕ) (place : Place) (class seats : ℕ)
    → find (is_for locator place class) done ≡ None → may_wait grid (waiting done) place class seats ≡ true
    → (answer (state_of grid done) n (Seats (ask_for locator place class seats Waiting))).state
    ≡ state_of grid (pass grid [] [] (done ++ booking_with n locator place class seats Waiting ∷ [])).bookings
listed_plain grid done n locator place class seats none may = rw (none, may) refl

pub none_found : (p : Booking → Bool) (xs : List Booking) → AllByRecursion (λ x. p x ≡ false) xs → find p xs ≡ None
none_found p [] a = refl
none_found p (x ∷ xs) a = rw a.0 (none_found p xs a.1)

-- a held one that fits
pub sold : (grid : Ladders) (done : List Booking) (n : ℕ) (b : Booking) → b.status ≡ Held
    → AllByRecursion (λ x. Differs x b) done → b.seats ≤ room grid (held done) b.place b.class
    → (answer (state_of grid done) n (Seats (command_for b))).state ≡ state_of grid (done ++ record b { number = n } ∷ [])
sold grid done n b is differs le =
    let fits : nat_le b.seats (room grid (held done) b.place b.class) ≡ true = grind (arith, nat_tests) in
    let none = none_found (is_for b.locator b.place b.class) done differs in
    let Goal : Status → Type 0 = λ s. (answer (state_of grid done) n (Seats (ask_for b.locator b.place b.class b.seats s))).state
    ≡ state_of grid (done ++ booking_with n b.locator b.place b.class b.seats s ∷ []) in
    subst Goal (sym is) (sold_plain grid done n b.locator b.place b.class b.seats none fits)

-- a waiting one that may wait
pub listed : (grid : Ladders) (done : List Booking) (n : ℕ) (b : Booking) → b.status ≡ Waiting
    → AllByRecursion (λ x. Differs x b) done → may_wait grid (waiting done) b.place b.class b.seats ≡ true
    → (answer (state_of grid done) n (Seats (command_for b))).state
    ≡ state_of grid (pass grid [] [] (done ++ record b { number = n } ∷ [])).bookings
listed grid done n b is differs may =
    let none = none_found (is_for b.locator b.place b.class) done differs in
    let Goal : Status → Type 0 = λ s. (answer (state_of grid done) n (Seats (ask_for b.locator b.place b.class b.seats s))).state
    ≡ state_of grid (pass grid [] [] (done ++ booking_with n b.locator b.place b.class b.seats s ∷ [])).bookings in
    subst Goal (sym is) (listed_plain grid done n b.locator b.place b.class b.seats none may)

-- ---- one after the other

pub asked_both : (xs ys : List Booking) (s : State) (n m : ℕ) → m ≡ n + length xs
    → asked_from s n (xs ++ ys) ≡ asked_from (asked_from s n xs) m ys
asked_both [] ys s n m e = let same : m ≡ n = omega (arith, e) in ap (λ (k : ℕ). asked_from s k ys) (sym same)
asked_both (x ∷ xs) ys s n m e = asked_both xs ys (answer s n (Seats (command_for x))).state (n + 1) m (omega (arith, e))

-- ---- carried ones

pub carried_push : (line : ℕ) (olds news : List Booking) (n : ℕ) (b y : Booking) → n ≡ line + length olds
    → AreCarried line olds news → IsCarried n b y → AreCarried line (olds ++ b ∷ []) (news ++ y ∷ [])
carried_push line [] [] n b y e a c = (let same : n ≡ line = omega (arith, e) in let P : ℕ → Type 0 = λ k. IsCarried k b y in subst P same c, tt)
carried_push line [] (y' ∷ news) n b y e a c = absurd a
carried_push line (x ∷ olds) [] n b y e a c = absurd a
carried_push line (x ∷ olds) (z ∷ news) n b y e a c = (a.0, carried_push (line + 1) olds news n b y (omega (arith, e)) a.1 c)

pub carried_new : (n : ℕ) (b : Booking) → IsCarried n b (record b { number = n })
carried_new n b = record { number = refl; locator = refl; place = refl; class = refl; seats = refl; held = λ h. h }

pub carried_anew : (line : ℕ) (bs : List Booking) → AreCarried line bs (anew line bs)
carried_anew line [] = tt
carried_anew line (b ∷ bs) = (carried_new line b, carried_anew (line + 1) bs)

pub anew_push : (line : ℕ) (bs : List Booking) (n : ℕ) (b : Booking) → n ≡ line + length bs
    → anew line (bs ++ b ∷ []) ≡ anew line bs ++ record b { number = n } ∷ []
anew_push line [] n b e = let same : line ≡ n = omega (arith, e) in ap (λ (k : ℕ). record b { number = k } ∷ []) same
anew_push line (x ∷ bs) n b e = ap (λ (l : List Booking). record x { number = line } ∷ l) (anew_push (line + 1) bs n b (omega (arith, e)))

-- a pass loses none of them
carried_confirmed : (line : ℕ) (olds done : List Booking) (b : Booking) (bs : List Booking) → AreCarried line olds (done ++ b ∷ bs)
    → AreCarried line olds (done ++ confirmed b ∷ bs)
carried_confirmed line [] [] b bs a = absurd a
carried_confirmed line [] (z ∷ done) b bs a = absurd a
carried_confirmed line (x ∷ olds) [] b bs a =
    (record { number = a.0.number; locator = a.0.locator; place = a.0.place; class = a.0.class; seats = a.0.seats; held = λ h. refl }, a.1)
carried_confirmed line (x ∷ olds) (z ∷ done) b bs a = (a.0, carried_confirmed (line + 1) olds done b bs a.1)

pub carried_passed : (grid : Ladders) (line : ℕ) (olds news : List Booking) → AreCarried line olds news
    → AreCarried line olds (pass grid [] [] news).bookings
carried_passed grid line olds news a =
    each_pass (λ (l : List Booking). AreCarried line olds l) grid (λ done b bs h may. carried_confirmed line olds done b bs h) [] news [] a

-- they are for what the old ones were for
pub carried_differs : (b : Booking) (line : ℕ) (olds news : List Booking) → AreCarried line olds news
    → AllByRecursion (λ x. Differs x b) olds → AllByRecursion (λ x. Differs x b) news
carried_differs b line [] [] a d = tt
carried_differs b line [] (y ∷ news) a d = absurd a
carried_differs b line (x ∷ olds) [] a d = absurd a
carried_differs b line (x ∷ olds) (y ∷ news) a d = (differs, carried_differs b (line + 1) olds news a.1 d.1) where
  differs : Differs y b
  differs = rw (a.0.locator, a.0.place, a.0.class) d.0

-- and no more of them wait
waits_less : (line : ℕ) (x y : Booking) → IsCarried line x y → (f l k : ℕ) → waits_on f l k y ≤ waits_on f l k x
waits_less line x y c f l k = cases x.status y.status refl refl where
  cases : (s t : Status) → x.status ≡ s → y.status ≡ t → waits_on f l k y ≤ waits_on f l k x
  cases Held t e g = let is : y.status ≡ Held = c.held e in rw is (omega arith)
  cases Waiting Held e g = rw g (omega arith)
  cases Waiting Waiting e g = rw (e, g, c.place, c.class, c.seats) (omega arith)

pub carried_waits : (line : ℕ) (olds news : List Booking) → AreCarried line olds news → (f l k : ℕ)
    → waiting news f l k ≤ waiting olds f l k
carried_waits line [] [] a f l k = omega arith
carried_waits line [] (y ∷ news) a f l k = absurd a
carried_waits line (x ∷ olds) [] a f l k = absurd a
carried_waits line (x ∷ olds) (y ∷ news) a f l k =
    omega (arith, sum_by-cons (waits_on f l k) x olds, sum_by-cons (waits_on f l k) y news, waits_less line x y a.0 f l k, carried_waits (line + 1) olds news a.1 f l k)
