use Rattle.std.proofs.Common.{◌≡◌, drop}
use Rattle.seat_bookings.specs.Demands.{waits_of}
use Rattle.seat_nesting.specs.Nesting.{may_wait_on}
use Rattle.seat_bookings.proofs.rooms.may_wait_on_leg.Given as goal

abbrev pub invariant-loop-step : goal.invariant-loop-step
invariant-loop-step l =
    let seats = waits_of l.demands l.flight l.leg in
    may_wait_on (drop l.step-index l.steps) seats l.class l.seats ≡ may_wait_on l.steps seats l.class l.seats
