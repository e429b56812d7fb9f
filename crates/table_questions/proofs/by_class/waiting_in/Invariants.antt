-- The bookings so far are counted.
use Rattle.std.proofs.Common.{◌≡◌, ◌≤◌, ◌*◌, take}
use Rattle.std.specs.List.{sum_by}
use Rattle.seat_rules.specs.Bookings.{is_waiting}
use Rattle.table_questions.specs.SumRows.{seats_in}
use Rattle.table_questions.proofs.by_class.waiting_in.Given as goal

abbrev pub invariant-loop-booking : goal.invariant-loop-booking
invariant-loop-booking l = record {
  total : l.seats ≡ sum_by (seats_in is_waiting l.leg l.class) (take l.booking-index l.bookings);
  bound : l.seats ≤ l.booking-index * 65535;
}
