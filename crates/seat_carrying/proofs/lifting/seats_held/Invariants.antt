-- The seats of the bookings so far, counted up to 1,000.
use Rattle.std.proofs.Common.{◌≡◌, min, take}
use Rattle.seat_rules.specs.Bookings.{held}
use Rattle.seat_carrying.proofs.lifting.seats_held.Given as goal

abbrev pub invariant-loop-booking : goal.invariant-loop-booking
invariant-loop-booking l = l.seats ≡ min 1000 (held (take l.booking-index l.bookings) l.flight l.leg l.class)
