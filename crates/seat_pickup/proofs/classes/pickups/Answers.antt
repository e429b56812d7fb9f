use Rattle.std.proofs.Common.{drop, take}
use Rattle.seat_rules.specs.Inventory.{state_now}
use Rattle.seat_rules.specs.Journal.{replay}
use Rattle.seat_questions.proofs.Covers.{there, here}
use Rattle.seat_pickup.specs.Pickups.{of_class}
use Rattle.seat_pickup.proofs.Picking.{flight_more, flights_whole}
use Rattle.seat_pickup.proofs.classes.pickups.Goals as goal

pub loop-index-preserved : goal.loop-index-preserved
loop-index-preserved c =
    flight_more c.args.flight.now (of_class (replay c.args.core.now.grid (take c.args.lines c.args.core.now.journal)).bookings (drop c.args.lines c.args.core.now.journal) (state_now c.args.core.now).bookings)
    c.args.flights.now c.loop-index.index c.flight.result c.loop-index.all.items c.add_flight.new.all.items _ c.loop-index.invariant
    (there c.args.flights.now c.loop-index.index c.flight.result c.flight.ensures.value) (here c.args.flights.now c.loop-index.index c.flight.result c.flight.ensures.value)
    c.in_ok-add_flight.ensures

pub returns : goal.returns
returns c =
    flights_whole c.args.flight.now (of_class (replay c.args.core.now.grid (take c.args.lines c.args.core.now.journal)).bookings (drop c.args.lines c.args.core.now.journal) (state_now c.args.core.now).bookings)
    c.args.flights.now c.loop-index.index c.len-index-end.result c.loop-index.all.items _ c.loop-index.invariant c.len-index-end.ensures.value c.loop-index-test.false
