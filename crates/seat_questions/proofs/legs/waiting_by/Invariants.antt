-- The bookings so far are counted.
use Rattle.std.proofs.Common.{◌≡◌, ◌≤◌, ◌*◌, take}
use Rattle.seat_rules.specs.Bookings.{waiting}
use Rattle.seat_questions.proofs.legs.waiting_by.Given as goal

abbrev pub invariant-loop-booking : goal.invariant-loop-booking
invariant-loop-booking l = record {
  total : l.count ≡ waiting (take l.booking-index l.bookings) l.flight l.leg l.class;
  bound : l.count ≤ l.booking-index * 65535;
}
