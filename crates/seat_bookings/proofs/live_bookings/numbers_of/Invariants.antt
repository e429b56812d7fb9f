use Rattle.std.proofs.Common.{◌≤◌, drop, length}
use Rattle.seat_bookings.specs.Live.{IsNumbersOf}
use Rattle.seat_bookings.proofs.live_bookings.numbers_of.Given as goal

abbrev pub invariant-loop-at : goal.invariant-loop-at
invariant-loop-at l = record {
  within : l.at ≤ length l.bookings;
  found : IsNumbersOf l.numbers (drop l.at l.bookings);
}

abbrev pub decreases-loop-at : goal.decreases-loop-at
decreases-loop-at l = l.at
