-- All but the rest are booked.
use Rattle.std.proofs.Common.{length}
use Rattle.desk_hall.specs.Booking.{IsBooking}
use Rattle.desk_hall.proofs.booking.book.Given as goal

abbrev pub invariant-loop-rest : goal.invariant-loop-rest
invariant-loop-rest g l = IsBooking g.D.Tape.seen g.D.Tape.may_leave g.D.Tape.unsynced g.D.Failures.failure_count l.initial.serving l.serving l.asked l.rest

abbrev pub decreases-loop-rest : goal.decreases-loop-rest
decreases-loop-rest g l = length l.rest
