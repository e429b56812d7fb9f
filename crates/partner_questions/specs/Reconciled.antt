-- What `reconcile` writes: in what a partner's list and the live bookings of a journal differ.
use Rattle.std.specs.Prelude.{ℕ, List}
use Rattle.airimp_lines.specs.declared.requests.Request.{Request}
use Rattle.ssim_flights.specs.declared.flight.Flight.{Flight as Flown}
use Rattle.seat_journal.specs.declared.entry.Entry.{Entry}
use Rattle.seat_rules.specs.declared.booking.Booking.{Booking}
use Rattle.partner_questions.specs.DifferenceText.{IsDifferenceText}
use Rattle.partner_questions.specs.Differences.{differences, same_lines}

-- the text says in what these lines of theirs and these live bookings differ
abbrev pub Reconciles : List Flown → List Entry → List Booking → List Request → List ℕ → Type 0
Reconciles flights journal ours theirs text =
    IsDifferenceText (differences flights journal ours theirs) (same_lines flights journal ours theirs) text
