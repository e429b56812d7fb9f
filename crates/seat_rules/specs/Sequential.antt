-- The sequential inventory: what a line answers, and the state that it leaves.
use Rattle.std.specs.Prelude.{◌≡◌, ℕ, ◌-◌, Bool, true, false, ◌&&◌, nat_le, List, [], ◌∷◌, ◌++◌, Option, None, Some, find, codes, if◌then◌else◌}
use Rattle.std.specs.List.{AllByRecursion}
use Rattle.airline_base.specs.declared.place.Place.{Place}
use Rattle.seat_nesting.specs.Nesting.{Ladders, room, may_wait, is_listed}
use Rattle.seat_nesting.specs.Changing.{can_set, has_sale, limits_with, sales_with}
use Rattle.seat_rules.specs.declared.booking.Booking.{Booking}
use Rattle.seat_rules.specs.declared.booking.Status.{Status}
use Rattle.seat_rules.specs.declared.booking.Status.TheVariants.{Held, Waiting}
use Rattle.seat_journal.specs.declared.entry.Advice.{Advice}
use Rattle.seat_journal.specs.declared.entry.Change.{Change}
use Rattle.seat_journal.specs.declared.entry.Command.{Command}
use Rattle.seat_journal.specs.declared.entry.SaleChange.{SaleChange}
use Rattle.seat_journal.specs.declared.entry.Work.{Work}
use Rattle.seat_journal.specs.declared.entry.Work.TheVariants.{Seats, Limit, Sale}
use Rattle.seat_rules.specs.declared.action.Action.{Action}
use Rattle.seat_rules.specs.declared.action.Action.TheVariants.{Want, Cancel, Other}
use Rattle.seat_rules.specs.declared.action.Wish.{Wish}
use Rattle.seat_rules.specs.declared.action.Wish.TheVariants.{Need, Sell, Waitlist}
use Rattle.seat_rules.specs.Codes.{action_of}
use Rattle.seat_rules.specs.Bookings.{is_for, is_held, is_waiting, held, waiting}

-- what a journal leaves: the limits now, with the classes that are closed, and the live bookings in order of number
pub record State : Type 0 where
  pub grid : Ladders
  pub bookings : List Booking

-- the state of these limits and bookings
abbrev pub state_of : Ladders → List Booking → State
state_of grid bookings = record { grid = grid; bookings = bookings }

-- what one line answers
pub record Outcome : Type 0 where
  pub state : State
  pub reply : List ℕ
  pub released : ℕ
  pub advices : List Advice

-- the seats that are left on a place in a class
abbrev pub room_left : State → Place → ℕ → ℕ
room_left s place class = room s.grid (held s.bookings) place class

-- nothing changes
abbrev pub refused : State → List ℕ → Outcome
refused s reply = record { state = s; reply = reply; released = 0; advices = [] }

-- the booking that a line makes
abbrev pub booking_of : ℕ → Command → Place → Status → Booking
booking_of number c place status =
    record { number = number; locator = c.locator; place = place; class = c.class; seats = c.seats; status = status }

-- one more booking
abbrev pub booked : State → Booking → List ℕ → Outcome
booked s b reply = record { state = state_of s.grid (s.bookings ++ b ∷ []); reply = reply; released = 0; advices = [] }

-- the booking that passes the test has n seats fewer, and is gone where none are left
abbrev pub reduced : (Booking → Bool) → ℕ → List Booking → List Booking
reduced test n [] = []
reduced test n (b ∷ bs) =
    (if test b then (if nat_le b.seats n then bs else record b { seats = b.seats - n } ∷ bs) else b ∷ reduced test n bs)

-- what a pass leaves, and its advices in order
pub record Passed : Type 0 where
  pub bookings : List Booking
  pub advices : List Advice

-- the booking, held from now on
abbrev pub confirmed : Booking → Booking
confirmed b = record b { status = Held }

abbrev pub advice_of : Booking → Advice
advice_of b = record { number = b.number; place = b.place; class = b.class; seats = b.seats }

-- it waits, and fits in the book
abbrev pub may_confirm : Ladders → List Booking → Booking → Bool
may_confirm grid book b = is_waiting b.status && nat_le b.seats (room grid (held book) b.place b.class)

-- no waiting booking of `among` fits in the book
abbrev pub NoneFitsAmong : Ladders → List Booking → List Booking → Type 0
NoneFitsAmong grid book among = AllByRecursion (λ b. may_confirm grid book b ≡ false) among

-- no waiting booking fits
abbrev pub NoneFits : Ladders → List Booking → Type 0
NoneFits grid book = NoneFitsAmong grid book book

-- the pass: over the bookings in order, each that waits and fits in the book so far is confirmed and told. Those `done` and `told` come first
abbrev pub pass : Ladders → List Booking → List Advice → List Booking → Passed
pass grid done told [] = record { bookings = done; advices = told }
pass grid done told (b ∷ bs) =
    (if may_confirm grid (done ++ b ∷ bs) b
    then pass grid (done ++ confirmed b ∷ []) (told ++ advice_of b ∷ []) bs
    else pass grid (done ++ b ∷ []) told bs)

-- these bookings, after a pass over all of them
abbrev pub passed : Ladders → List Booking → List ℕ → ℕ → Outcome
passed grid bookings reply released =
    let after = pass grid [] [] bookings in
    record { state = state_of grid after.bookings; reply = reply; released = released; advices = after.advices }

-- NN, SS or LL without such a booking, by whether its seats fit, whether its class has the mark and whether they may wait
abbrev pub want_new : Wish → State → ℕ → Command → Place → Bool → Bool → Bool → Outcome
want_new Need s number c place true listed wait = booked s (booking_of number c place Held) (codes "KK")
want_new Need s number c place false true true = booked s (booking_of number c place Waiting) (codes "UU")
want_new Need s number c place false true false = refused s (codes "UC")
want_new Need s number c place false false wait = refused s (codes "UC")
want_new Sell s number c place true listed wait = booked s (booking_of number c place Held) (codes "KK")
want_new Sell s number c place false listed true = booked s (booking_of number c place Waiting) (codes "US")
want_new Sell s number c place false listed false = refused s (codes "UC")
want_new Waitlist s number c place fits listed true =
    passed s.grid (s.bookings ++ booking_of number c place Waiting ∷ []) (codes "HL") 0
want_new Waitlist s number c place fits listed false = refused s (codes "UC")

-- NN, SS or LL, given the live booking of the same locator, place and class
abbrev pub want : Wish → State → ℕ → Command → Place → Option Booking → Outcome
want wish s number c place (Some b) = refused s (codes "NO")
want wish s number c place None =
    want_new wish s number c place
    (nat_le c.seats (room_left s place c.class))
    (is_listed s.grid place c.class)
    (may_wait s.grid (waiting s.bookings) place c.class c.seats)

-- XX, given that booking
abbrev pub cancel : State → Command → Place → Option Booking → Outcome
cancel s c place None = refused s (codes "NO")
cancel s c place (Some b) =
    (if nat_le c.seats b.seats
    then passed s.grid (reduced (is_for c.locator place c.class) c.seats s.bookings) (codes "HX")
    (if is_held b.status then c.seats else 0)
    else refused s (codes "NO"))

-- the live booking of the command's locator, place and class
abbrev pub booking_for : State → Command → Place → Option Booking
booking_for s c place = find (is_for c.locator place c.class) s.bookings

abbrev pub answer_to : Action → Option Place → State → ℕ → Command → Outcome
answer_to Other place s number c = refused s (codes "NO")
answer_to (Want wish) None s number c = refused s (codes "UN")
answer_to (Want wish) (Some place) s number c = want wish s number c place (booking_for s c place)
answer_to Cancel None s number c = refused s (codes "UN")
answer_to Cancel (Some place) s number c = cancel s c place (booking_for s c place)

-- the limits with a change
abbrev pub changed_by : Ladders → Change → Ladders
changed_by grid c = limits_with grid c.flight c.leg c.class c.limit c.wait

-- a change may be made: the leg has the class, and the limit stays in order and is not below what is held
abbrev pub may_change : State → Change → Bool
may_change s c = can_set s.grid (held s.bookings) c.flight c.leg c.class c.limit c.wait

-- AU: the limit is set, and a pass follows; or it stays as it is
abbrev pub set : State → Change → Outcome
set s c = (if may_change s c then passed (changed_by s.grid c) s.bookings (codes "OK") 0 else refused s (codes "NO"))

-- the limits with a class of a leg, or all, closed or opened
abbrev pub sales_by : Ladders → SaleChange → Ladders
sales_by grid c = sales_with grid c.flight c.leg c.class c.closed

-- a class may be closed or opened: the leg has it, or where none is named any class
abbrev pub may_set_sale : State → SaleChange → Bool
may_set_sale s c = has_sale s.grid c.flight c.leg c.class

-- ST: the class, or each, is closed or open from now on, and a pass follows; or nothing changes
abbrev pub set_sale : State → SaleChange → Outcome
set_sale s c =
    (if may_set_sale s c then passed (sales_by s.grid c) s.bookings (codes "OK") 0 else refused s (codes "NO"))

-- the sequential step: the answer to what a line asks for, as line `number`
abbrev pub answer : State → ℕ → Work → Outcome
answer s number (Seats c) = answer_to (action_of c.code) c.place s number c
answer s number (Limit c) = set s c
answer s number (Sale c) = set_sale s c
