-- The bookings so far are counted.
use Rattle.std.proofs.Common.{◌≡◌, ◌≤◌, ◌*◌, take}
use Rattle.seat_rules.specs.Bookings.{is_held}
use Rattle.seat_loads.specs.Sums.{seats_among}
use Rattle.seat_loads.proofs.passengers.held_among.Given as goal

abbrev pub invariant-loop-booking : goal.invariant-loop-booking
invariant-loop-booking l = record {
  total : l.seats ≡ seats_among l.asked is_held l.legs (take l.booking-index l.bookings);
  bound : l.seats ≤ l.booking-index * 65535;
}
