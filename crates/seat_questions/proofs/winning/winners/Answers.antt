use Rattle.std.proofs.Common.{◌≤◌, length, arith}
use Rattle.seat_questions.proofs.Marking.{all_marked, flight_marked, none_marked}
use Rattle.seat_questions.proofs.winning.winners.Goals as goal

pub loop-i-preserved : goal.loop-i-preserved
loop-i-preserved c =
    flight_marked c.args.rows.now c.args.flights.now c.loop-i.i c.flight.result c.loop-i.marks.items c.mark_legs.new.marks.items c.loop-i.invariant c.flight.ensures.value c.mark_legs.ensures

pub returns : goal.returns
returns c =
    let over : length c.args.flights.now ≤ c.loop-i.i = omega (arith, c.loop-i-test.false, c.len-i-end.ensures.value) in
    all_marked c.args.rows.now c.args.flights.now c.loop-i.i c.loop-i.marks.items c.loop-i.invariant over

pub loop-i-init : goal.loop-i-init
loop-i-init c = none_marked c.args.rows.now c.args.flights.now c.in_ok-marks.marks.items (c.in_ok-marks.ensures.items_if_clones_equal (λ y same. same))

pub mark_legs-requires-clause-index : goal.mark_legs-requires-clause-index
mark_legs-requires-clause-index c = c.in_ok-index.ensures

pub mark_legs-requires-clause-counted : goal.mark_legs-requires-clause-counted
mark_legs-requires-clause-counted c = c.loop-i.invariant.counted
