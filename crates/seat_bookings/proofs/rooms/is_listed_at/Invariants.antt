use Rattle.std.proofs.Common.{◌≡◌, ◌-◌}
use Rattle.seat_nesting.specs.Counting.{limits_of}
use Rattle.seat_nesting.specs.Nesting.{each_leg, is_listed_on, ladder_at}
use Rattle.seat_bookings.proofs.rooms.is_listed_at.Given as goal

abbrev pub invariant-loop-leg : goal.invariant-loop-leg
invariant-loop-leg l = l.listed ≡ each_leg (λ leg. is_listed_on (ladder_at (limits_of l.counts) l.flight leg) l.class) l.fn.place.from (l.leg - l.fn.place.from)
