use Rattle.seat_pickup.specs.Moves.{advised}
use Rattle.seat_pickup.specs.Pairs.{tally_at}
use Rattle.seat_pickup.proofs.Counted.{adds_all, adds_more}
use Rattle.seat_pickup.proofs.moves.add_advised.Goals as goal

pub loop-advice-preserved : goal.loop-advice-preserved
loop-advice-preserved c =
    adds_more (advised (tally_at c.args.tally.now)) c.args.advices.now c.loop-advice.advice-index c.advice-item.result c.args.row.now.items c.loop-advice.row.items c.add_by_advice.new.row.items
    c.loop-advice.invariant c.loop-advice-test.true c.advice-item.is c.in_ok-add_by_advice.ensures

pub returns : goal.returns
returns c = adds_all (advised (tally_at c.args.tally.now)) c.args.advices.now c.loop-advice.advice-index c.args.row.now.items c.loop-advice.row.items c.loop-advice.invariant c.loop-advice-test.false
