use Rattle.std.proofs.Common.{◌≤◌, arith, length, refl}
use Rattle.seat_rules.specs.Inventory.{state_now}
use Rattle.seat_questions.proofs.Covers.{there, here}
use Rattle.seat_loads.specs.Sums.{on_flight}
use Rattle.seat_loads.proofs.Adding.{sum_more, sum_none, sum_whole}
use Rattle.table_questions.specs.SumRows.{class_count}
use Rattle.table_questions.proofs.by_class.over_legs.Goals as goal

pub loop-index-init : goal.loop-index-init
loop-index-init c = record {
  value = sum_none (on_flight c.args.asked.now (class_count c.args.count (state_now c.args.core.now) c.args.class)) c.args.flights.now 0 refl;
  few = omega arith;
}

pub loop-index-preserved : goal.loop-index-preserved
loop-index-preserved c = record {
  value =
      sum_more (on_flight c.args.asked.now (class_count c.args.count (state_now c.args.core.now) c.args.class)) c.loop-index.index c.args.flights.now c.flight.result
      c.loop-index.total c.flight_count-total.result _ _ c.loop-index.invariant.value
      (there c.args.flights.now c.loop-index.index c.flight.result c.flight.ensures.value) (here c.args.flights.now c.loop-index.index c.flight.result c.flight.ensures.value)
      c.flight_count-total.ensures.value refl;
  few = omega (arith, c.loop-index.invariant.few, c.flight_count-total.ensures.few);
}

pub returns : goal.returns
returns c =
    let past : length c.args.flights.now ≤ c.loop-index.index = omega (arith, c.len-index-end.ensures.value, c.loop-index-test.false) in
    sum_whole (on_flight c.args.asked.now (class_count c.args.count (state_now c.args.core.now) c.args.class)) c.loop-index.index c.args.flights.now c.loop-index.total _
    c.loop-index.invariant.value past
