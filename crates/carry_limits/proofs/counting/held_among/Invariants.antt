-- The seats of the bookings so far are counted.
use Rattle.std.proofs.Common.{◌≡◌, min, take}
use Rattle.std.specs.List.{sum_by}
use Rattle.seat_rules.specs.Bookings.{seats_among}
use Rattle.carry_limits.specs.Overs.{most_counted}
use Rattle.carry_limits.proofs.counting.held_among.Given as goal

abbrev pub invariant-loop-booking : goal.invariant-loop-booking
invariant-loop-booking l = l.held ≡ min most_counted (sum_by (seats_among l.steps l.flight l.leg) (take l.booking-index l.bookings))
