use Rattle.seat_pickup.specs.Moves.{confirmed_by}
use Rattle.seat_pickup.specs.Pairs.{tally_at}
use Rattle.seat_pickup.proofs.Counted.{adds_all, adds_more}
use Rattle.seat_pickup.proofs.moves.add_confirmed.Goals as goal

pub loop-line-preserved : goal.loop-line-preserved
loop-line-preserved c =
    adds_more (confirmed_by (tally_at c.args.tally.now)) c.args.lines.now c.loop-line.line-index c.line-item.result c.args.row.now.items c.loop-line.row.items c.add_confirmed_by.new.row.items
    c.loop-line.invariant c.loop-line-test.true c.line-item.is c.in_ok-add_confirmed_by.ensures

pub returns : goal.returns
returns c = adds_all (confirmed_by (tally_at c.args.tally.now)) c.args.lines.now c.loop-line.line-index c.args.row.now.items c.loop-line.row.items c.loop-line.invariant c.loop-line-test.false
