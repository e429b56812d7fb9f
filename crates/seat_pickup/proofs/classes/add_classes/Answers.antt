use Rattle.std.proofs.Common.{◌++◌, drop, refl, take}
use Rattle.seat_rules.specs.Inventory.{state_now}
use Rattle.seat_rules.specs.Journal.{replay}
use Rattle.seat_pickup.specs.Pickups.{of_class, of_classes, of_letters}
use Rattle.seat_pickup.proofs.Picking.{class_more, classes_whole}
use Rattle.seat_pickup.proofs.classes.add_classes.Goals as goal

pub loop-i-init : goal.loop-i-init
unfolding of_letters
loop-i-init c = refl

pub loop-i-preserved : goal.loop-i-preserved
loop-i-preserved c =
    class_more (of_class (replay c.args.core.now.grid (take c.args.lines c.args.core.now.journal)).bookings (drop c.args.lines c.args.core.now.journal) (state_now c.args.core.now).bookings c.args.index c.args.flight.now)
    c.loop-i.i _ c.loop-i.all.items c.add_letter.new.all.items _ c.loop-i.invariant c.loop-i-test.true refl c.in_ok-add_letter.ensures

pub returns : goal.returns
returns c =
    classes_whole (of_class (replay c.args.core.now.grid (take c.args.lines c.args.core.now.journal)).bookings (drop c.args.lines c.args.core.now.journal) (state_now c.args.core.now).bookings c.args.index c.args.flight.now)
    c.loop-i.i c.loop-i.all.items _ c.loop-i.invariant c.loop-i-test.false
