use Rattle.std.proofs.Common.{◌≡◌, drop}
use Rattle.seat_bookings.specs.Demands.{next_party}
use Rattle.seat_bookings.proofs.demands.next_party.Given as goal

abbrev pub invariant-loop-booking : goal.invariant-loop-booking
invariant-loop-booking l = next_party l.place l.class l.seats (drop l.booking-index l.queue) ≡ next_party l.place l.class l.seats l.queue
