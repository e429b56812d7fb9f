-- The laws of the definitions.
use Rattle.std.specs.Prelude.{◌≡◌, ◌↔◌, ℕ, ◌+◌, ◌<◌, ◌≤◌, slice_index_or, List, [], length, drop}
use Rattle.std.specs.List.{AllPairs, sum_by}
use Rattle.seat_nesting.specs.declared.ladder.Step.{Step}
use Rattle.seat_nesting.specs.Nesting.{Ladders, HasLadders, ladder_at, held_from}
use Rattle.seat_rules.specs.declared.booking.Booking.{Booking}
use Rattle.seat_rules.specs.Bookings.{IsSameBooking, held, seats_among}
use Rattle.seat_rules.specs.Totals.{totals_of, seats_held}
use Rattle.seat_journal.specs.declared.entry.Work.{Work}
use Rattle.seat_journal.specs.declared.entry.Entry.{Entry}
use Rattle.seat_rules.specs.Sequential.{answer, pass, NoneFits}
use Rattle.seat_rules.specs.Journal.{replay, after, next_line, IsLegal, IsLegalAfter}
use Rattle.seat_rules.specs.Tables.{advices_by}
use Rattle.seat_rules.specs.Applying.{applied, IsNumbered}

-- a history is legal where its entries may follow one another from the first
abbrev pub LegalByRecursion : Type 0
LegalByRecursion = (grid : Ladders) (journal : List Entry) → IsLegal grid journal ↔ IsLegalAfter grid [] journal

-- after any step from any replay no waiting booking fits
abbrev pub NoneFitsAfterAStep : Type 0
NoneFitsAfterAStep = (grid : Ladders) (past : List Entry) (number : ℕ) (work : Work) →
    let left = (answer (replay grid past) number work).state in
    NoneFits left.grid left.bookings

-- no replay holds more seats in a rank, counted from 0, and below it than that rank's limit
abbrev pub ReplayKeepsLimits : Type 0
ReplayKeepsLimits = (grid : Ladders) (journal : List Entry) (flight leg rank : ℕ) (d : Step) → HasLadders grid →
    let left = replay grid journal in
    let steps = ladder_at left.grid flight leg in
    rank < length steps
    → held_from (held left.bookings flight leg) (drop rank steps) ≤ (slice_index_or steps rank d).limit

-- no two live bookings of a replay have the same locator, place and class
abbrev pub LiveBookingsDiffer : Type 0
LiveBookingsDiffer = (grid : Ladders) (journal : List Entry)
    → AllPairs (λ a b. IsSameBooking a b → ⊥) (replay grid journal).bookings

-- the seats of the held bookings are those confirmed less those released
abbrev pub HeldSeatsAreTheTotals : Type 0
HeldSeatsAreTheTotals = (grid : Ladders) (journal : List Entry) → IsLegal grid journal →
    seats_held (replay grid journal).bookings + (totals_of journal).released ≡ (totals_of journal).confirmed

-- Held(leg, rank), ranks from 0, is the sum over the held bookings whose place covers the leg and whose class has that rank or a lower one there
abbrev pub HeldByRankIsHeldByBookings : Type 0
HeldByRankIsHeldByBookings = (grid : Ladders) (bookings : List Booking) (flight leg rank : ℕ) → HasLadders grid →
    let lower = drop rank (ladder_at grid flight leg) in
    held_from (held bookings flight leg) lower ≡ sum_by (seats_among lower flight leg) bookings

-- the replay of a legal history has its bookings in order of number, each the number of a line
abbrev pub ReplayIsNumbered : Type 0
ReplayIsNumbered = (grid : Ladders) (journal : List Entry) → IsLegal grid journal
    → IsNumbered (length journal) (replay grid journal).bookings

-- applying the next line to the bookings is the step
abbrev pub ApplyingIsTheStep : Type 0
ApplyingIsTheStep = (grid : Ladders) (past : List Entry) (session call : ℕ) (work : Work) → IsLegal grid past →
    let line = next_line grid past session call work in
    applied (replay grid past).bookings line ≡ (after (replay grid past) line).bookings

-- the table of held seats and the bookings in order give the advices of a pass
abbrev pub PassIsByTable : Type 0
PassIsByTable = (grid : Ladders) (bookings : List Booking)
    → (pass grid [] [] bookings).advices ≡ advices_by grid (held bookings) bookings
