use Rattle.seat_availability.proofs.Changing.{change_more, changes_whole}
use Rattle.seat_availability.proofs.changes.changed.Goals as goal

pub loop-i-preserved : goal.loop-i-preserved
loop-i-preserved c =
    change_more c.args.older.now c.args.newer.now c.loop-i.i c.index-newer-i.result c.loop-i.all.items c.add_news.new.all.items _ c.loop-i.invariant c.loop-i-test.true c.index-newer-i.is
    c.in_ok-add_news.ensures

pub returns : goal.returns
returns c = changes_whole c.args.older.now c.args.newer.now c.loop-i.i c.loop-i.all.items _ c.loop-i.invariant c.loop-i-test.false
