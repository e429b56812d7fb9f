use Rattle.std.proofs.Common.{◌≡◌, ◌-◌}
use Rattle.seat_nesting.specs.Nesting.{each_leg, ladder_at}
use Rattle.seat_nesting.specs.Counting.{leg_holds, limits_of, table_of}
use Rattle.seat_nesting.proofs.counts.Counts.holds.Given as goal

abbrev pub invariant-loop-leg : goal.invariant-loop-leg
invariant-loop-leg l =
    l.held ≡ each_leg (λ leg. leg_holds (ladder_at (limits_of l.self) l.fn.place.flight leg) (table_of l.self l.fn.place.flight leg) l.class l.seats) l.fn.place.from (l.leg - l.fn.place.from)
