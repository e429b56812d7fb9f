use Rattle.std.proofs.Common.{refl}
use Rattle.seat_rules.specs.Inventory.{state_now}
use Rattle.seat_availability.specs.Messages.{message_of, segments_from}
use Rattle.seat_availability.proofs.Adding.{part_more, parts_whole}
use Rattle.seat_availability.proofs.segments.add_legs.Goals as goal

pub loop-from-preserved : goal.loop-from-preserved
loop-from-preserved c =
    part_more (message_of c.args.asked.now (state_now c.args.core.now)) (segments_from c.args.served.now c.args.asked.now c.args.core.now.grid c.args.index c.args.flight.now)
    c.loop-from.from _ c.loop-from.from c.as_slice-legs.result.now c.index-legs-from.result c.loop-from.all.items c.add_runs.new.all.items _ c.loop-from.invariant c.loop-from-test.true
    c.index-legs-from.is c.in_ok-add_runs.ensures refl

pub returns : goal.returns
returns c =
    parts_whole (message_of c.args.asked.now (state_now c.args.core.now)) (segments_from c.args.served.now c.args.asked.now c.args.core.now.grid c.args.index c.args.flight.now)
    c.loop-from.from c.loop-from.from _ c.as_slice-legs.result.now c.loop-from.all.items _ c.loop-from.invariant refl c.loop-from-test.false
