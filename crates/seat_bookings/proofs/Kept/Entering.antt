-- A line that sets something on a flight, in the books.
use Rattle.std.proofs.Common.{◌≡◌, ◌==◌, ℕ, zero, suc, ◌<◌, ◌≤◌, Bool, true, false, List, [], ◌∷◌, length, get_or, slice_get, slice_set, Option, None, Some, if◌then◌else◌, arith, refl, ap, sym, subst, ◌∙◌}
use Rattle.std.specs.Option.{option_map}
use Rattle.seat_bookings.proofs.Common.{Booking, FlightBook, Advice, confirmed_each, book_at, queue_of}
use Rattle.std.proofs.lemmas.Bool.Decides.{nat_tests}
use Rattle.airline_base.specs.declared.place.Place.{Place}
use Rattle.seat_journal.specs.declared.entry.Change.{Change}
use Rattle.seat_journal.specs.declared.entry.Command.{Command}
use Rattle.seat_journal.specs.declared.entry.SaleChange.{SaleChange}
use Rattle.seat_journal.specs.declared.entry.Entry.{Entry}
use Rattle.seat_journal.specs.declared.entry.Work.{Work}
use Rattle.seat_journal.specs.declared.entry.Work.TheVariants.{Seats, Limit, Sale}
use Rattle.seat_rules.specs.declared.effect.Effect.{Effect}
use Rattle.seat_rules.specs.Applying.{applied, changed, effect_of, replied}
use Rattle.seat_bookings.specs.Books.{bookings_in, has_spare, has_spare_in, queue_in, queue_at, IsEntered, IsQueued}
use Rattle.seat_rules.specs.Flights.{flight_of, is_flight, is_on, place_of}

-- the flight on which a line sets something, which has no place
pub limit_on : (w : Work) (c : Change) → w ≡ Limit c → flight_of w ≡ Some c.flight
limit_on w c is = ap flight_of is

pub limit_nowhere : (w : Work) (c : Change) → w ≡ Limit c → place_of w ≡ None
limit_nowhere w c is = ap place_of is

pub sale_on : (w : Work) (c : SaleChange) → w ≡ Sale c → flight_of w ≡ Some c.flight
sale_on w c is = ap flight_of is

pub sale_nowhere : (w : Work) (c : SaleChange) → w ≡ Sale c → place_of w ≡ None
sale_nowhere w c is = ap place_of is

-- a command is on the flight of its place
pub command_on : (w : Work) (c : Command) (p : Place) → w ≡ Seats c → c.place ≡ Some p → flight_of w ≡ Some p.flight
command_on w c p is at = ap flight_of is ∙ ap (option_map (λ (x : Place). x.flight)) at

-- which has a book, where it has room
inside : (books : List FlightBook) (f : ℕ) (effect : Effect) → has_spare_in effect (slice_get books f) ≡ true → f < length books
inside [] f effect has = absurd cc
inside (b ∷ books) zero effect has = omega arith
inside (b ∷ books) (suc f) effect has = let below = inside books f effect has in omega (arith, below)

pub spare_inside : (books : List FlightBook) (o : Option Place) (p : Place) (effect : Effect) → o ≡ Some p
    → has_spare books o effect ≡ true → p.flight < length books
spare_inside books o p effect at has =
    let P : Option Place → Type 0 = λ x. has_spare books x effect ≡ true in
    inside books p.flight effect (subst P at has)

-- advices confirm nothing where there is no booking
confirmed_none : (advices : List Advice) → confirmed_each [] advices ≡ []
confirmed_none [] = refl
confirmed_none (a ∷ advices) = confirmed_none advices

-- a line without a place makes no booking
replied_nowhere : (bs : List Booking) (n : ℕ) (w : Work) (reply : List ℕ) → place_of w ≡ None → replied bs n w reply ≡ bs
replied_nowhere bs n (Seats c) reply at = ap (λ (o : Option Place). changed bs n c o (effect_of reply)) at
replied_nowhere bs n (Limit c) reply at = refl
replied_nowhere bs n (Sale c) reply at = refl

applied_none : (e : Entry) → place_of e.work ≡ None → applied [] e ≡ []
applied_none e nowhere = ap (λ (l : List Booking). confirmed_each l e.advices) (replied_nowhere [] e.number e.work e.reply nowhere) ∙ confirmed_none e.advices

beyond : (books : List FlightBook) (f : ℕ) → length books ≤ f → book_at books f ≡ []
beyond [] f le = refl
beyond (b ∷ books) zero le = absurd (omega arith)
beyond (b ∷ books) (suc f) le = beyond books f (omega arith)

-- a flight without a book needs none
pub entered_nowhere : (books : List FlightBook) (e : Entry) (flight : ℕ) → flight_of e.work ≡ Some flight → place_of e.work ≡ None
    → length books ≤ flight → IsEntered books books e
entered_nowhere books e flight is nowhere le = record { each = λ f. cases f (flight == f) refl } where
  cases : (f : ℕ) (t : Bool) → (flight == f) ≡ t
      → book_at books f ≡ (if is_on f e.work then applied (book_at books f) e else book_at books f)
  cases f true at =
      let on : is_on f e.work ≡ true = ap (is_flight f) is ∙ at in
      let same : flight ≡ f = grind (arith, nat_tests) in
      let none : book_at books f ≡ [] = ap (book_at books) (sym same) ∙ beyond books flight le in
      rw on (none ∙ sym (ap (λ (l : List Booking). applied l e) none ∙ applied_none e nowhere))
  cases f false at =
      let off : is_on f e.work ≡ false = ap (is_flight f) is ∙ at in
      rw off refl

-- ---- another book in a flight's place

set_here : (books : List FlightBook) (f : ℕ) (b : FlightBook) → f < length books
    → slice_get (slice_set books f b) f ≡ Some b
set_here [] f b lt = absurd (omega arith)
set_here (x ∷ books) zero b lt = refl
set_here (x ∷ books) (suc f) b lt = set_here books f b (omega arith)

set_other : (books : List FlightBook) (f g : ℕ) (b : FlightBook) → (f == g) ≡ false
    → slice_get (slice_set books f b) g ≡ slice_get books g
set_other [] f g b e = refl
set_other (x ∷ books) zero zero b e = absurd cc
set_other (x ∷ books) zero (suc g) b e = refl
set_other (x ∷ books) (suc f) zero b e = refl
set_other (x ∷ books) (suc f) (suc g) b e = let below : (f == g) ≡ false = grind (arith, nat_tests) in set_other books f g b below

get_is : (books : List FlightBook) (f : ℕ) (b : FlightBook) → f < length books → b ≡ get_or books f b
    → slice_get books f ≡ Some b
get_is [] f b lt is = absurd (omega arith)
get_is (x ∷ books) zero b lt is = ap (λ (y : FlightBook). Some y) (sym is)
get_is (x ∷ books) (suc f) b lt is = get_is books f b (omega arith) is

-- what a line does, in the book of its flight
pub entered_in : (books : List FlightBook) (book new : FlightBook) (e : Entry) (flight : ℕ) → flight_of e.work ≡ Some flight
    → flight < length books → book ≡ get_or books flight book
    → new.bookings.items ≡ applied book.bookings.items e
    → IsEntered books (slice_set books flight new) e
entered_in books book new e flight is lt at does = record { each = λ f. cases f (flight == f) refl } where
  before : book_at books flight ≡ book.bookings.items
  before = ap bookings_in (get_is books flight book lt at)

  here : book_at (slice_set books flight new) flight ≡ applied (book_at books flight) e
  here = ap bookings_in (set_here books flight new lt) ∙ (does ∙ ap (λ (l : List Booking). applied l e) (sym before))

  cases : (f : ℕ) (t : Bool) → (flight == f) ≡ t
      → book_at (slice_set books flight new) f
      ≡ (if is_on f e.work then applied (book_at books f) e else book_at books f)
  cases f true e_at =
      let on : is_on f e.work ≡ true = ap (is_flight f) is ∙ e_at in
      let same : flight ≡ f = grind (arith, nat_tests) in
      let P : ℕ → Type 0 = λ x. book_at (slice_set books flight new) x ≡ applied (book_at books x) e in
      rw on (subst P same here)
  cases f false e_at =
      let off : is_on f e.work ≡ false = ap (is_flight f) is ∙ e_at in
      rw off (ap bookings_in (set_other books flight f new e_at))

-- its advices alone, where it sets something there
pub entered_at : (books : List FlightBook) (book new : FlightBook) (e : Entry) (flight : ℕ) → flight_of e.work ≡ Some flight
    → place_of e.work ≡ None → flight < length books → book ≡ get_or books flight book
    → new.bookings.items ≡ confirmed_each book.bookings.items e.advices
    → IsEntered books (slice_set books flight new) e
entered_at books book new e flight is nowhere lt at confirms =
    entered_in books book new e flight is lt at
    (confirms ∙ sym (ap (λ (l : List Booking). confirmed_each l e.advices) (replied_nowhere book.bookings.items e.number e.work e.reply nowhere)))

-- its waiting list
pub queue_here : (books : List FlightBook) (f : ℕ) (book : FlightBook) → IsQueued books → f < length books
    → book ≡ get_or books f book → book.queue.bookings ≡ queue_of book.bookings.items
queue_here books f book h lt at =
    let is = get_is books f book lt at in
    sym (ap queue_in is) ∙ (h.each f ∙ ap (λ o. queue_of (bookings_in o)) is)

pub queued_at : (books : List FlightBook) (f : ℕ) (new : FlightBook) → IsQueued books → f < length books
    → new.queue.bookings ≡ queue_of new.bookings.items → IsQueued (slice_set books f new)
queued_at books f new h lt is = record { each = λ g. cases g (f == g) refl } where
  cases : (g : ℕ) (t : Bool) → (f == g) ≡ t
      → queue_at (slice_set books f new) g ≡ queue_of (book_at (slice_set books f new) g)
  cases g true e =
      let same : f ≡ g = grind (arith, nat_tests) in
      let P : ℕ → Type 0 = λ x. queue_at (slice_set books f new) x ≡ queue_of (book_at (slice_set books f new) x) in
      let at = set_here books f new lt in
      subst P same (ap queue_in at ∙ (is ∙ sym (ap (λ o. queue_of (bookings_in o)) at)))
  cases g false e =
      let at = set_other books f g new e in
      ap queue_in at ∙ (h.each g ∙ sym (ap (λ o. queue_of (bookings_in o)) at))
