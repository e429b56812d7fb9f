use Rattle.std.proofs.Common.{◌≡◌, ◌-◌}
use Rattle.seat_nesting.specs.Nesting.{each_leg, ladder_at, may_wait_on}
use Rattle.seat_rules.specs.Bookings.{waiting}
use Rattle.seat_rules.specs.Inventory.{state_now}
use Rattle.seat_availability.proofs.statuses.may_wait.Given as goal

abbrev pub invariant-loop-leg : goal.invariant-loop-leg
invariant-loop-leg l =
    l.may ≡ each_leg (λ leg. may_wait_on (ladder_at (state_now l.core).grid l.flight leg) (waiting (state_now l.core).bookings l.flight leg) l.class 1) l.fn.place.from (l.leg - l.fn.place.from)
