use Rattle.std.proofs.Common.{◌≡◌, drop}
use Rattle.seat_nesting.specs.Nesting.{may_wait_on}
use Rattle.seat_rules.specs.Bookings.{waiting}
use Rattle.seat_rules.specs.Inventory.{state_now}
use Rattle.seat_availability.proofs.statuses.may_wait_on.Given as goal

abbrev pub invariant-loop-step : goal.invariant-loop-step
invariant-loop-step l =
    let seats = waiting (state_now l.core).bookings l.flight l.leg in
    may_wait_on (drop l.step-index l.steps) seats l.class 1 ≡ may_wait_on l.steps seats l.class 1
