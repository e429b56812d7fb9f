use Rattle.seat_questions.specs.Coverage.{day_of}
use Rattle.seat_questions.proofs.Coverages.{leg_more}
use Rattle.seat_questions.proofs.coverage.put_days.Goals as goal

pub loop-leg-preserved : goal.loop-leg-preserved
loop-leg-preserved c =
    rw c.in_ok-push.ensures.items
    (leg_more (day_of c.args.numbers.now c.args.flight.now) c.as_slice-legs.result.now c.loop-leg.leg-index c.leg-item.result c.args.days.now.items c.loop-leg.days.items c.day_of.result
    c.loop-leg.invariant c.loop-leg-test.true c.leg-item.is c.day_of.ensures.value)
