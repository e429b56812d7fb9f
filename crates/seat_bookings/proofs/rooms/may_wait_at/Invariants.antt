use Rattle.std.proofs.Common.{◌≡◌, ◌-◌}
use Rattle.seat_nesting.specs.Counting.{limits_of}
use Rattle.seat_bookings.specs.Demands.{waits_of}
use Rattle.seat_nesting.specs.Nesting.{each_leg, may_wait_on, ladder_at}
use Rattle.seat_bookings.proofs.rooms.may_wait_at.Given as goal

abbrev pub invariant-loop-leg : goal.invariant-loop-leg
invariant-loop-leg l =
    l.may ≡ each_leg (λ leg. may_wait_on (ladder_at (limits_of l.counts) l.flight leg) (waits_of l.demands l.flight leg) l.class l.seats) l.fn.place.from (l.leg - l.fn.place.from)
