-- What a line is answered from, and what its answer has of an outcome.
use Rattle.std.specs.Prelude.{◌≡◌, ℕ, ◌-◌, ◌≤◌, nat_le, List, [], ◌∷◌, length, false, IfOk, IfSome, if◌then◌else◌}
use Rattle.std.specs.List.{AllByRecursion}
use Rattle.seat_nesting.specs.Nesting.{Ladders, has_class, ladder_at}
use Rattle.seat_nesting.specs.Counting.{Counted, limits_of, table_of}
use Rattle.seat_rules.specs.declared.booking.Booking.{Booking}
use Rattle.seat_bookings.specs.declared.books.FlightBook.{FlightBook}
use Rattle.seat_core.specs.declared.reply.Answer.{Answer}
use Rattle.seat_journal.specs.declared.entry.Advice.{Advice}
use Rattle.seat_journal.specs.declared.entry.Command.{Command}
use Rattle.seat_journal.specs.declared.entry.Work.{Work}
use Rattle.seat_journal.specs.declared.entry.Work.TheVariants.{Seats, Limit, Sale}
use Rattle.seat_rules.specs.Bookings.{held}
use Rattle.seat_bookings.specs.Books.{book_at, queue_at}
use Rattle.seat_bookings.specs.Queues.{queue_of}
use Rattle.seat_rules.specs.Tables.{Lacks}
use Rattle.seat_rules.specs.Sequential.{Outcome, NoneFits, advice_of}

-- the bookings of a flight: the counters hold what they hold, none of those that wait fits, and the waiting list is theirs
pub record CountsFlight (counts : Counted) (books : List FlightBook) (flight : ℕ) : Type 0 where
  pub few : length (book_at books flight) ≤ 999999
  pub quiet : NoneFits (limits_of counts) (book_at books flight)
  pub queue : queue_at books flight ≡ queue_of (book_at books flight)
  pub seats : (leg class : ℕ) → table_of counts flight leg class ≡ held (book_at books flight) flight leg class
  pub lacks : Lacks (limits_of counts) (book_at books flight)
  pub there : AllByRecursion (λ b. b.place.flight ≡ flight) (book_at books flight)

-- a command may be answered: its flight is as the counters say, its legs stand in order, and it has a seat
pub record CanAnswer (counts : Counted) (books : List FlightBook) (c : Command) : Type 0 where
  pub flight : IfSome c.place (λ p. CountsFlight counts books p.flight)
  pub order : IfSome c.place (λ p. p.from ≤ p.to)
  pub some : 1 ≤ c.seats

-- what a line asks for may be answered
abbrev pub CanAnswerWork : Counted → List FlightBook → Work → Type 0
CanAnswerWork counts books (Seats c) = CanAnswer counts books c
CanAnswerWork counts books (Limit c) = CountsFlight counts books c.flight
CanAnswerWork counts books (Sale c) = CountsFlight counts books c.flight

-- this reply alone
pub record IsReply (code : List ℕ) (answer : Answer) : Type 0 where
  pub reply : answer.reply ≡ code
  pub released : answer.released ≡ 0
  pub advices : IfOk answer.advices (λ told. [] ≡ told.items)

-- the outcome's reply and released seats, and its advices where there is memory for them
pub record Says (outcome : Outcome) (answer : Answer) : Type 0 where
  pub reply : outcome.reply ≡ answer.reply
  pub released : outcome.released ≡ answer.released
  pub advices : IfOk answer.advices (λ told. outcome.advices ≡ told.items)

-- the advice of a waiting booking that has n seats fewer, where those that are left fit this room
abbrev pub rest_advised : ℕ → Booking → ℕ → List Advice
rest_advised room b n =
    (if nat_le b.seats n then [] else
    (if nat_le (b.seats - n) room then advice_of (record b { seats = b.seats - n }) ∷ [] else []))
