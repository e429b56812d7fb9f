-- What a line may answer, by cases.
use Rattle.std.proofs.Common.{◌≡◌, ℕ, ◌<◌, ◌≤◌, ◌++◌, ◌∷◌, [], Bool, true, false, nat_le, List, Option, Some, None, codes, if◌then◌else◌, arith, refl}
use Rattle.seat_rules.proofs.Common.{Place, Ladders, may_wait, is_listed, Booking, Held, Waiting, Change, Command, SaleChange, Work, Seats, Limit, Sale, Want, Cancel, Wish, action_of, is_for, is_held, waiting, State, Outcome, room_left, refused, booked, booking_of, booking_for, reduced, passed, want, cancel, changed_by, may_change, sales_by, may_set_sale, answer}
use Rattle.std.proofs.lemmas.Bool.Decides.{nat_tests}
use Rattle.seat_rules.specs.declared.action.Action.{Action}
use Rattle.seat_rules.specs.declared.action.Action.TheVariants.{Other}
use Rattle.seat_rules.specs.declared.action.Wish.TheVariants.{Need, Sell, Waitlist}
use Rattle.seat_rules.specs.Sequential.{want_new, set, set_sale, answer_to}

pub data Refusal : Type 0 where
  No : Refusal
  Unable : Refusal
  Closed : Refusal

abbrev pub code_of : Refusal → List ℕ
code_of No = codes "NO"
code_of Unable = codes "UN"
code_of Closed = codes "UC"

-- why a booking waits where no seats fit: a need of a listed class, or a sale
pub data Listing : Type 0 where
  Needed : Listing
  Sold : Listing

abbrev pub listing_code : Listing → List ℕ
listing_code Needed = codes "UU"
listing_code Sold = codes "US"

-- a refusal; one held booking more, which fits; one waiting more, which does not; after a pass, one waiting more, or one with fewer seats or none; after a pass, another limit; and after a pass, a class closed or opened
pub each_outcome : (P : Work → Outcome → Type 0) (s : State) (number : ℕ)
    → ((w : Work) (r : Refusal) → P w (refused s (code_of r)))
    → ((c : Command) (place : Place) → c.place ≡ Some place → booking_for s c place ≡ None → c.seats
    ≤ room_left s place c.class
    → P (Seats c) (booked s (booking_of number c place Held) (codes "KK")))
    → ((c : Command) (place : Place) → c.place ≡ Some place → booking_for s c place ≡ None → room_left s place c.class
    < c.seats → (why : Listing)
    → P (Seats c) (booked s (booking_of number c place Waiting) (listing_code why)))
    → ((c : Command) (place : Place) → c.place ≡ Some place → booking_for s c place ≡ None
    → P (Seats c) (passed s.grid (s.bookings ++ booking_of number c place Waiting ∷ []) (codes "HL") 0))
    → ((c : Command) (place : Place) (b : Booking) → c.place ≡ Some place → booking_for s c place ≡ Some b → c.seats
    ≤ b.seats
    → P (Seats c) (passed s.grid (reduced (is_for c.locator place c.class) c.seats s.bookings) (codes "HX")
    (if is_held b.status then c.seats else 0)))
    → ((c : Change) → may_change s c ≡ true → P (Limit c) (passed (changed_by s.grid c) s.bookings (codes "OK") 0))
    → ((c : SaleChange) → may_set_sale s c ≡ true → P (Sale c) (passed (sales_by s.grid c) s.bookings (codes "OK") 0))
    → (w : Work) → P w (answer s number w)
each_outcome P s number refuses holds waits lists cancels sets shuts (Sale c) = sales (may_set_sale s c) refl where
  sales : (t : Bool) → may_set_sale s c ≡ t → P (Sale c) (set_sale s c)
  sales true e = rw e (shuts c e)
  sales false e = rw e (refuses (Sale c) No)
each_outcome P s number refuses holds waits lists cancels sets shuts (Limit c) = changes (may_change s c) refl where
  changes : (t : Bool) → may_change s c ≡ t → P (Limit c) (set s c)
  changes true e = rw e (sets c e)
  changes false e = rw e (refuses (Limit c) No)
each_outcome P s number refuses holds waits lists cancels sets shuts (Seats c) = by_action (action_of c.code) c.place refl where
  le_of : (place : Place) → nat_le c.seats (room_left s place c.class) ≡ true → c.seats ≤ room_left s place c.class
  le_of place e = grind (arith, nat_tests)

  lt_of : (place : Place) → nat_le c.seats (room_left s place c.class) ≡ false → room_left s place c.class < c.seats
  lt_of place e = grind (arith, nat_tests)

  want_if : (place : Place) → c.place ≡ Some place → booking_for s c place ≡ None → (w : Wish) (fits listed may : Bool)
      → nat_le c.seats (room_left s place c.class) ≡ fits → P (Seats c) (want_new w s number c place fits listed may)
  want_if place at none Need true listed may e = holds c place at none (le_of place e)
  want_if place at none Need false true true e = waits c place at none (lt_of place e) Needed
  want_if place at none Need false true false e = refuses (Seats c) Closed
  want_if place at none Need false false may e = refuses (Seats c) Closed
  want_if place at none Sell true listed may e = holds c place at none (le_of place e)
  want_if place at none Sell false listed true e = waits c place at none (lt_of place e) Sold
  want_if place at none Sell false listed false e = refuses (Seats c) Closed
  want_if place at none Waitlist fits listed true e = lists c place at none
  want_if place at none Waitlist fits listed false e = refuses (Seats c) Closed

  by_found : (place : Place) → c.place ≡ Some place → (w : Wish) (o : Option Booking) → booking_for s c place ≡ o
      → P (Seats c) (want w s number c place o)
  by_found place at w (Some b) found = refuses (Seats c) No
  by_found place at w None found = want_if place at found w (nat_le c.seats (room_left s place c.class)) (is_listed s.grid place c.class) (may_wait s.grid (waiting s.bookings) place c.class c.seats) refl

  cancel_if : (place : Place) → c.place ≡ Some place → (b : Booking) → booking_for s c place ≡ Some b → (t : Bool)
      → nat_le c.seats b.seats ≡ t → P (Seats c) (cancel s c place (Some b))
  cancel_if place at b found true e = let le : c.seats ≤ b.seats = grind (arith, nat_tests) in rw e (cancels c place b at found le)
  cancel_if place at b found false e = rw e (refuses (Seats c) No)

  by_held : (place : Place) → c.place ≡ Some place → (o : Option Booking) → booking_for s c place ≡ o
      → P (Seats c) (cancel s c place o)
  by_held place at None found = refuses (Seats c) No
  by_held place at (Some b) found = cancel_if place at b found (nat_le c.seats b.seats) refl

  by_action : (r : Action) (o : Option Place) → c.place ≡ o → P (Seats c) (answer_to r o s number c)
  by_action Other o at = refuses (Seats c) No
  by_action (Want w) None at = refuses (Seats c) Unable
  by_action (Want w) (Some place) at = by_found place at w (booking_for s c place) refl
  by_action Cancel None at = refuses (Seats c) Unable
  by_action Cancel (Some place) at = by_held place at (booking_for s c place) refl

-- the limits after a line: those before it, or those that it sets
pub each_grid : (P : Ladders → Type 0) (s : State) (number : ℕ) (w : Work) → P s.grid
    → ((c : Change) → w ≡ Limit c → may_change s c ≡ true → P (changed_by s.grid c))
    → ((c : SaleChange) → w ≡ Sale c → may_set_sale s c ≡ true → P (sales_by s.grid c)) → P (answer s number w).state.grid
each_grid P s number w here set_one shut_one =
    each_outcome (λ v o. w ≡ v → P o.state.grid) s number
    (λ v r is. here) (λ c place at none fits is. here) (λ c place at none over why is. here) (λ c place at none is. here) (λ c place b at found le is. here) (λ c may is. set_one c is may) (λ c may is. shut_one c is may)
    w refl

-- no command changes the limits
pub grid_answer : (s : State) (number : ℕ) (c : Command) → (answer s number (Seats c)).state.grid ≡ s.grid
grid_answer s number c = each_grid (λ g. g ≡ s.grid) s number (Seats c) refl (λ d is may. absurd cc) (λ d is may. absurd cc)
