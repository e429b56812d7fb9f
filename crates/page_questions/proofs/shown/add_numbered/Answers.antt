use Rattle.seat_rules.specs.Inventory.{state_now}
use Rattle.seat_questions.proofs.Covers.{there, here}
use Rattle.page_questions.specs.Shown.{shown}
use Rattle.page_questions.proofs.Showing.{flight_more, flights_whole}
use Rattle.page_questions.proofs.shown.add_numbered.Goals as goal

pub loop-index-preserved : goal.loop-index-preserved
loop-index-preserved c =
    flight_more (shown c.args.asked.now (state_now c.args.core.now) c.args.class c.args.leg) c.args.flights.now c.loop-index.index c.flight.result
    c.loop-index.all.items c.add_shown.new.all.items _ c.loop-index.invariant
    (there c.args.flights.now c.loop-index.index c.flight.result c.flight.ensures.value) (here c.args.flights.now c.loop-index.index c.flight.result c.flight.ensures.value)
    c.in_ok-add_shown.ensures

pub returns : goal.returns
returns c =
    flights_whole (shown c.args.asked.now (state_now c.args.core.now) c.args.class c.args.leg) c.args.flights.now c.loop-index.index c.len-index-end.result
    c.loop-index.all.items _ c.loop-index.invariant c.len-index-end.ensures.value c.loop-index-test.false
