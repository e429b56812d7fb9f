use Rattle.seat_pickup.specs.Moves.{cancelled_by}
use Rattle.seat_pickup.specs.Pairs.{tally_at}
use Rattle.seat_pickup.proofs.Counted.{adds_all, adds_more}
use Rattle.seat_pickup.proofs.moves.add_cancelled.Goals as goal

pub loop-line-preserved : goal.loop-line-preserved
loop-line-preserved c =
    adds_more (cancelled_by (tally_at c.args.tally.now)) c.args.lines.now c.loop-line.line-index c.line-item.result c.args.row.now.items c.loop-line.row.items c.add_cancelled_by.new.row.items
    c.loop-line.invariant c.loop-line-test.true c.line-item.is c.in_ok-add_cancelled_by.ensures

pub returns : goal.returns
returns c = adds_all (cancelled_by (tally_at c.args.tally.now)) c.args.lines.now c.loop-line.line-index c.args.row.now.items c.loop-line.row.items c.loop-line.invariant c.loop-line-test.false
