-- None so far has the number.
use Rattle.std.proofs.Common.{◌≡◌, drop}
use Rattle.carry_reports.specs.Fates.{outcome_in}
use Rattle.carry_reports.proofs.fating.outcome_in.Given as goal

abbrev pub invariant-loop-booking : goal.invariant-loop-booking
invariant-loop-booking l = outcome_in l.number l.bookings ≡ outcome_in l.number (drop l.booking-index l.bookings)
