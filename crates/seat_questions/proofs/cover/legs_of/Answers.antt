use Rattle.std.proofs.Common.{arith}
use Rattle.seat_questions.specs.Cover.{leg_count}
use Rattle.seat_questions.proofs.Covers.{sum_flight}
use Rattle.seat_questions.proofs.cover.legs_of.Goals as goal

pub loop-i-preserved : goal.loop-i-preserved
loop-i-preserved c = record {
  total = sum_flight leg_count c.args.flights.now c.loop-i.i c.flight-flight.result c.loop-i.count c.len.result c.loop-i.invariant.total c.flight-flight.ensures.value c.len.ensures;
  bound = omega (arith, c.loop-i.invariant.bound, c.flight-flight.ensures.legs, c.len.ensures);
}
