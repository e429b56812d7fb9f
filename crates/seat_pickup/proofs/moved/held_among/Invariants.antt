-- The bookings so far are counted.
use Rattle.std.proofs.Common.{◌≡◌, ◌≤◌, ◌*◌, take}
use Rattle.std.specs.List.{sum_by}
use Rattle.seat_pickup.specs.Moves.{holds, is_at}
use Rattle.seat_pickup.proofs.moved.held_among.Given as goal

abbrev pub invariant-loop-booking : goal.invariant-loop-booking
invariant-loop-booking l = record {
  total : l.seats ≡ sum_by (holds (is_at l.split) l.flight l.letter) (take l.booking-index l.bookings);
  bound : l.seats ≤ l.booking-index * 65535;
}
