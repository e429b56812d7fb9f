use Rattle.std.proofs.Common.{◌≡◌, ◌-◌}
use Rattle.seat_nesting.specs.Nesting.{least, room_on, ladder_at}
use Rattle.seat_nesting.specs.Counting.{limits_of, table_of}
use Rattle.seat_nesting.proofs.counts.Counts.room.Given as goal

abbrev pub invariant-loop-leg : goal.invariant-loop-leg
invariant-loop-leg l =
    l.room ≡ least (λ leg. room_on (ladder_at (limits_of l.self) l.fn.place.flight leg) (table_of l.self l.fn.place.flight leg) l.class) l.fn.place.from (l.leg - l.fn.place.from)
