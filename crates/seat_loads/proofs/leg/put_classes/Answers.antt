use Rattle.seat_nesting.specs.Nesting.{ladder_at}
use Rattle.seat_rules.specs.Bookings.{held}
use Rattle.seat_rules.specs.Inventory.{state_now}
use Rattle.seat_loads.proofs.LoadTexts.{class_put, classes_whole}
use Rattle.seat_loads.proofs.leg.put_classes.Goals as goal

pub loop-i-preserved : goal.loop-i-preserved
loop-i-preserved c =
    class_put (held (state_now c.args.core.now).bookings c.args.flight c.args.leg) c.args.steps.now (ladder_at (state_now c.args.core.now).grid c.args.flight c.args.leg) c.loop-i.i c.index-steps-i.result c.held_from-seats.result
    c.loop-i.text.items c.put_load.new.text.items _ c.requires.ladder c.loop-i-test.true c.index-steps-i.is c.held_from-seats.ensures c.loop-i.invariant c.in_ok-put_load.ensures

pub returns : goal.returns
returns c =
    classes_whole (held (state_now c.args.core.now).bookings c.args.flight c.args.leg) c.args.steps.now c.loop-i.i c.loop-i.text.items _ c.loop-i.invariant c.loop-i-test.false
