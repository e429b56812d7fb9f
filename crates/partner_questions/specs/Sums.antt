-- What the two counts of the last line come to.
use Rattle.std.specs.Prelude.{◌≡◌, ◌+◌, List, length}
use Rattle.airimp_lines.specs.declared.requests.Request.{Request}
use Rattle.ssim_flights.specs.declared.flight.Flight.{Flight as Flown}
use Rattle.seat_journal.specs.declared.entry.Entry.{Entry}
use Rattle.seat_rules.specs.declared.booking.Booking.{Booking}
use Rattle.partner_questions.specs.Differences.{differences, our_differences, same_lines}

-- the lines that are the same and the differences are the lines of the list and the bookings that it lacks
abbrev pub CountsAreWhole : Type 0
CountsAreWhole = (flights : List Flown) (journal : List Entry) (ours : List Booking) (theirs : List Request) →
    same_lines flights journal ours theirs + length (differences flights journal ours theirs)
    ≡ length theirs + length (our_differences flights journal ours theirs)
