use Rattle.std.proofs.Common.{◌<◌, ◌+◌, arith}
use Rattle.seat_nesting.specs.Counting.{limits_of, table_of, plus}
use Rattle.seat_nesting.proofs.CountChanges.{changes_more, plus_none, fits_forwards, fits_each, fits_behind}
use Rattle.seat_nesting.proofs.counts.Counts.take.Goals as goal

pub take_on-requires : goal.take_on-requires
take_on-requires c =
    let some : 0 < c.args.seats = omega arith in
    let old = c.args.self.now in
    let forwards = fits_forwards (limits_of old) (table_of old) c.args.place c.args.class c.args.seats c.requires some in
    fits_each (limits_of old) (table_of old) c.args.place c.args.class c.args.seats c.args.place.from c.requires (omega arith) forwards

pub take_on-requires-in-loop-leg : goal.take_on-requires-in-loop-leg
take_on-requires-in-loop-leg c =
    let old = c.args.self.now in
    let fits = fits_each (limits_of old) (table_of old) c.args.place c.args.class c.args.seats (c.loop-leg.leg + 1) c.requires (omega arith) (omega arith) in
    fits_behind old c.loop-leg.self c.args.place.flight c.args.place.from c.loop-leg.leg (c.loop-leg.leg + 1) c.args.class c.args.seats c.args.seats (omega arith) c.loop-leg.invariant fits

pub loop-leg-preserved : goal.loop-leg-preserved
loop-leg-preserved c =
    changes_more plus plus_none c.args.self.now c.loop-leg.self c.take_on-in-loop-leg.new.self c.args.place.flight c.args.place.from c.loop-leg.leg c.args.class c.args.seats c.loop-leg.auto.leg c.loop-leg.invariant c.take_on-in-loop-leg.ensures
