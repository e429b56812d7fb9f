use Rattle.std.proofs.Common.{◌≡◌, ◌-◌}
use Rattle.seat_nesting.specs.Nesting.{each_leg, ladder_at}
use Rattle.seat_rules.specs.Inventory.{state_now}
use Rattle.seat_availability.specs.Statuses.{has_seats}
use Rattle.seat_availability.proofs.statuses.is_operated.Given as goal

abbrev pub invariant-loop-leg : goal.invariant-loop-leg
invariant-loop-leg l = l.all ≡ each_leg (λ leg. has_seats (ladder_at (state_now l.core).grid l.flight leg)) l.fn.place.from (l.leg - l.fn.place.from)
