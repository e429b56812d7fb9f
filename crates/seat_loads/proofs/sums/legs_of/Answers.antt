use Rattle.seat_rules.specs.Inventory.{state_now}
use Rattle.seat_questions.proofs.Covers.{there, here}
use Rattle.seat_loads.proofs.Adding.{flight_more}
use Rattle.seat_loads.proofs.sums.legs_of.Goals as goal

pub loop-index-preserved : goal.loop-index-preserved
loop-index-preserved c =
    flight_more c.args.asked.now (state_now c.args.core.now) c.args.flights.now c.loop-index.index c.flight.result c.loop-index.sums c.kept_legs-more.result c.plus-sums.result c.loop-index.invariant
    (there c.args.flights.now c.loop-index.index c.flight.result c.flight.ensures.value) (here c.args.flights.now c.loop-index.index c.flight.result c.flight.ensures.value)
    c.kept_legs-more.ensures c.plus-sums.ensures
