-- The bookings so far are counted.
use Rattle.std.proofs.Common.{◌≡◌, ◌≤◌, ◌*◌, take}
use Rattle.std.specs.List.{sum_by}
use Rattle.table_questions.specs.SumRows.{waits_for}
use Rattle.table_questions.proofs.by_leg.waiting_among.Given as goal

abbrev pub invariant-loop-booking : goal.invariant-loop-booking
invariant-loop-booking l = record {
  total : l.seats ≡ sum_by (waits_for l.leg) (take l.booking-index l.bookings);
  bound : l.seats ≤ l.booking-index * 65535;
}
