use Rattle.std.proofs.Common.{◌-◌, arith}
use Rattle.seat_nesting.specs.Counting.{limits_of, table_of}
use Rattle.seat_bookings.proofs.Waitlists.Fitting.{first_next, most_next}
use Rattle.seat_bookings.proofs.fitting.first_fitting.Goals as goal

pub loop-at-preserved : goal.loop-at-preserved
loop-at-preserved c =
    let counts = c.args.counts.now in
    record {
      within = omega (arith, c.loop-at.invariant.within);
      first_so_far =
          first_next (limits_of counts) (table_of counts) c.args.demands.now (c.loop-at.at - 1) c.loop-at.at c.index-demands-at.result c.room-room.result
          c.loop-at.first c.sooner-first.result c.loop-at.invariant.first_so_far (omega (arith, c.loop-at-test.true))
          (omega (arith, c.loop-at-test.true, c.loop-at.invariant.within)) c.index-demands-at.is c.room-room.ensures c.sooner-first.ensures;
      most =
          most_next (limits_of counts) (table_of counts) c.loop-at.most c.raise.new.most c.args.demands.now (c.loop-at.at - 1) c.loop-at.at c.index-demands-at.result
          c.loop-at.invariant.most (omega (arith, c.loop-at-test.true)) (omega (arith, c.loop-at-test.true, c.loop-at.invariant.within)) c.index-demands-at.is
          c.raise.ensures.kept (omega (arith, c.room-room.ensures, c.raise.ensures.here));
    }
