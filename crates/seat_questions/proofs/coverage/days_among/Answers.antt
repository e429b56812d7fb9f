use Rattle.std.proofs.Common.{◌≤◌, length, arith}
use Rattle.seat_questions.specs.Coverage.{days_of}
use Rattle.seat_questions.proofs.Coverages.{days_ranked, flight_more}
use Rattle.seat_questions.proofs.coverage.days_among.Goals as goal

pub loop-i-preserved : goal.loop-i-preserved
loop-i-preserved c =
    flight_more (days_of c.args.numbers.now) c.args.flights.now c.loop-i.i c.flight.result c.loop-i.days.items c.put_days.new.days.items c.loop-i.invariant c.flight.ensures.value c.in_ok-put_days.ensures

pub returns : goal.returns
returns c =
    let over : length c.args.flights.now ≤ c.loop-i.i = omega (arith, c.loop-i-test.false, c.len-i-end.ensures) in
    days_ranked (days_of c.args.numbers.now) c.args.flights.now c.loop-i.i c.loop-i.days.items c.sort.new.self.items c.loop-i.invariant over c.sort.ensures.permutation c.in_ok-sort.ensures.sorted
