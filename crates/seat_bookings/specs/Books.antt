-- The live bookings, flight by flight.
use Rattle.std.specs.Prelude.{◌≡◌, ℕ, ◌≤◌, Bool, true, false, List, [], Option, Some, None, slice_get, slice_index, if◌then◌else◌}
use Rattle.airline_base.specs.declared.place.Place.{Place}
use Rattle.seat_nesting.specs.Nesting.{Ladders}
use Rattle.seat_nesting.specs.Counting.{Counted, limits_of, table_of}
use Rattle.seat_journal.specs.declared.entry.Entry.{Entry}
use Rattle.seat_journal.specs.declared.entry.Work.{Work}
use Rattle.seat_journal.specs.declared.entry.Work.TheVariants.{Seats, Limit, Sale}
use Rattle.seat_rules.specs.declared.booking.Booking.{Booking}
use Rattle.seat_bookings.specs.declared.books.FlightBook.{FlightBook}
use Rattle.seat_rules.specs.declared.effect.Effect.{Effect}
use Rattle.seat_rules.specs.Bookings.{held}
use Rattle.seat_rules.specs.Journal.{replay, calls_of}
use Rattle.seat_rules.specs.Flights.{bookings_on, is_on}
use Rattle.seat_bookings.specs.Queues.{queue_of}
use Rattle.seat_rules.specs.Applying.{applied, suffices, Spare}
use Rattle.seat_bookings.specs.Live.{AreLive}
use Rattle.seat_rules.specs.Inventory.{IsLawful}

abbrev pub bookings_in : Option FlightBook → List Booking
bookings_in None = []
bookings_in (Some book) = book.bookings.items

-- the bookings of a flight; none where it has no book yet
abbrev pub book_at : List FlightBook → ℕ → List Booking
book_at books flight = bookings_in (slice_get books flight)

abbrev pub queue_in : Option FlightBook → List Booking
queue_in None = []
queue_in (Some book) = book.queue.bookings

-- the waiting list of a flight
abbrev pub queue_at : List FlightBook → ℕ → List Booking
queue_at books flight = queue_in (slice_get books flight)

-- those of a place's flight; no place has none
abbrev pub book_for : List FlightBook → Option Place → List Booking
book_for books None = []
book_for books (Some place) = book_at books place.flight

-- those of a line's flight
abbrev pub book_of : List FlightBook → Work → List Booking
book_of books (Seats c) = book_for books c.place
book_of books (Limit c) = book_at books c.flight
book_of books (Sale c) = book_at books c.flight

abbrev pub spare_of : FlightBook → Spare
spare_of book = record { booking = book.bookings.spare; waiting = book.queue.spare }

abbrev pub has_spare_in : Effect → Option FlightBook → Bool
has_spare_in effect None = false
has_spare_in effect (Some book) = suffices effect (spare_of book)

-- there is memory for what a reply does on the place's flight; no place needs none
abbrev pub has_spare : List FlightBook → Option Place → Effect → Bool
has_spare books None effect = true
has_spare books (Some place) effect = has_spare_in effect (slice_get books place.flight)

-- each flight has the same bookings and waiting list
pub record SameBooks (old new : List FlightBook) : Type 0 where
  pub each : (flight : ℕ) → book_at new flight ≡ book_at old flight
  pub queues : (flight : ℕ) → queue_at new flight ≡ queue_at old flight

-- each waiting list is that of its flight's bookings
pub record IsQueued (books : List FlightBook) : Type 0 where
  pub each : (flight : ℕ) → queue_at books flight ≡ queue_of (book_at books flight)

-- the entry leaves live bookings in the book of its flight
pub record LeavesLive (books : List FlightBook) (e : Entry) : Type 0 where
  pub each : (flight : ℕ) → is_on flight e.work ≡ true → AreLive (applied (book_at books flight) e)

-- the entry was applied to the book of its flight, and to no other
pub record IsEntered (old new : List FlightBook) (e : Entry) : Type 0 where
  pub each : (flight : ℕ)
      → book_at new flight ≡ (if is_on flight e.work then applied (book_at old flight) e else book_at old flight)

-- the books and the waiting lists are those of the replay, flight by flight; each session's calls are counted, sessions 1 to 8; and the counters, which know the limits now, hold what the replay holds
pub record IsOfReplay (opening : Ladders) (cap : ℕ) (journal : List Entry) (books : List FlightBook) (calls : List ℕ)
    (counts : Counted) : Type 0 where
  pub lawful : IsLawful opening (limits_of counts) cap journal (replay opening journal).bookings
  pub by_flight : (flight : ℕ) → book_at books flight ≡ bookings_on flight (replay opening journal).bookings
  pub by_queue : (flight : ℕ) → queue_at books flight ≡ queue_of (bookings_on flight (replay opening journal).bookings)
  pub by_session : (session : ℕ) → session ≤ 8 → slice_index calls session ≡ calls_of journal session
  pub seats : (flight leg class : ℕ)
      → table_of counts flight leg class ≡ held (replay opening journal).bookings flight leg class
