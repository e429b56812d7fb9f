use Rattle.std.proofs.Common.{◌+◌, arith}
use Rattle.seat_nesting.specs.Counting.{limits_of, table_of, less}
use Rattle.seat_nesting.proofs.CountChanges.{changes_more, less_none, held_forwards, held_each, held_behind}
use Rattle.seat_nesting.proofs.counts.Counts.give.Goals as goal

pub give_on-requires : goal.give_on-requires
give_on-requires c =
    let old = c.args.self.now in
    let forwards = held_forwards (limits_of old) (table_of old) c.args.place c.args.class c.args.seats c.requires in
    held_each (limits_of old) (table_of old) c.args.place c.args.class c.args.seats c.args.place.from c.requires (omega arith) forwards

pub give_on-requires-in-loop-leg : goal.give_on-requires-in-loop-leg
give_on-requires-in-loop-leg c =
    let old = c.args.self.now in
    let held = held_each (limits_of old) (table_of old) c.args.place c.args.class c.args.seats (c.loop-leg.leg + 1) c.requires (omega arith) (omega arith) in
    held_behind old c.loop-leg.self c.args.place.flight c.args.place.from c.loop-leg.leg (c.loop-leg.leg + 1) c.args.class c.args.seats c.args.seats (omega arith) c.loop-leg.invariant held

pub loop-leg-preserved : goal.loop-leg-preserved
loop-leg-preserved c =
    changes_more less less_none c.args.self.now c.loop-leg.self c.give_on-in-loop-leg.new.self c.args.place.flight c.args.place.from c.loop-leg.leg c.args.class c.args.seats c.loop-leg.auto.leg c.loop-leg.invariant c.give_on-in-loop-leg.ensures
