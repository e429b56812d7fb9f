use Rattle.std.proofs.Common.{◌≡◌, drop}
use Rattle.seat_bookings.specs.Demands.{next_of}
use Rattle.seat_bookings.proofs.demands.next_of.Given as goal

abbrev pub invariant-loop-booking : goal.invariant-loop-booking
invariant-loop-booking l = next_of l.place l.class (drop l.booking-index l.queue) ≡ next_of l.place l.class l.queue
