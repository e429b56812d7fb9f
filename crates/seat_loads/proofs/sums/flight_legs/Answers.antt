use Rattle.seat_rules.specs.Inventory.{state_now}
use Rattle.seat_loads.proofs.Adding.{all_of_flight, leg_more}
use Rattle.seat_loads.proofs.sums.flight_legs.Goals as goal

pub loop-j-preserved : goal.loop-j-preserved
loop-j-preserved c =
    leg_more c.args.asked.now (state_now c.args.core.now) c.args.index c.as_slice-legs.result.now c.loop-j.j c.index-legs-j.result c.loop-j.sums c.leg_sum-more.result c.plus-sums.result c.loop-j.invariant
    c.loop-j-test.true c.index-legs-j.is c.leg_sum-more.ensures c.plus-sums.ensures

pub returns : goal.returns
returns c =
    all_of_flight c.args.asked.now (state_now c.args.core.now) c.args.index c.args.flight.now c.as_slice-legs.result.now c.loop-j.j c.loop-j.sums c.as_slice-legs.ensures c.loop-j.invariant
    c.loop-j.auto.j-end c.loop-j-test.false c.requires.few
