use Rattle.std.proofs.Common.{arith, sym}
use Rattle.seat_nesting.specs.Nesting.{room_on, ladder_at}
use Rattle.seat_nesting.specs.Counting.{limits_of, table_of}
use Rattle.seat_nesting.proofs.Rooms.{least_next}
use Rattle.seat_nesting.proofs.counts.Counts.room.Goals as goal

pub loop-leg-preserved : goal.loop-leg-preserved
loop-leg-preserved c =
    let flight = c.args.place.flight in
    let next = least_next (λ leg. room_on (ladder_at (limits_of c.args.self.now) flight leg) (table_of c.args.self.now flight leg) c.args.class) c.args.place.from c.loop-leg.leg (omega arith) in
    rw (c.min-room.ensures, c.loop-leg.invariant, c.room_on.ensures) (sym next)
