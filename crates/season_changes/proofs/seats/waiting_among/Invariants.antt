-- The bookings so far are counted.
use Rattle.std.proofs.Common.{◌≡◌, ◌≤◌, ◌*◌, take}
use Rattle.std.specs.List.{sum_by}
use Rattle.seat_rules.specs.Bookings.{is_waiting}
use Rattle.season_changes.specs.Seats.{seats_if}
use Rattle.season_changes.proofs.seats.waiting_among.Given as goal

abbrev pub invariant-loop-booking : goal.invariant-loop-booking
invariant-loop-booking l = record {
  total : l.seats ≡ sum_by (seats_if is_waiting) (take l.booking-index l.bookings);
  bound : l.seats ≤ l.booking-index * 65535;
}
