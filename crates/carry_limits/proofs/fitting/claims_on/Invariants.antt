-- The seats of the bookings so far are counted.
use Rattle.std.proofs.Common.{◌≡◌, min, take}
use Rattle.seat_rules.specs.Bookings.{held, waiting}
use Rattle.carry_limits.specs.Overs.{most_counted}
use Rattle.carry_limits.proofs.fitting.claims_on.Given as goal

abbrev pub invariant-loop-booking : goal.invariant-loop-booking
invariant-loop-booking l =
    (l.held ≡ min most_counted (held (take l.booking-index l.bookings) l.flight l.leg l.class))
    × (l.waits ≡ min most_counted (waiting (take l.booking-index l.bookings) l.flight l.leg l.class))
