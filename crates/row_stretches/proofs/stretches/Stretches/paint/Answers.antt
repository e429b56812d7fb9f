use Rattle.std.proofs.Common.{arith}
use Rattle.row_stretches.proofs.Painting.{paint_start, paint_more, paint_end}
use Rattle.row_stretches.proofs.stretches.Stretches.paint.Goals as goal

pub open_from-at-requires-clause-skips : goal.open_from-at-requires-clause-skips
open_from-at-requires-clause-skips c = c.requires.skips

pub open_from-at-requires-clause-inside : goal.open_from-at-requires-clause-inside
open_from-at-requires-clause-inside c = c.requires.from

pub loop-at-init : goal.loop-at-init
loop-at-init c =
    paint_start c.args.self.now.rows.items c.open_from-at.new.self.rows.items c.open_from-at.new.self.skips.items c.args.from c.args.to
    c.open_from-at.result c.args.row c.open_from-at.ensures.skips c.open_from-at.ensures.rows c.open_from-at.ensures.next

pub paint_one-requires-clause-skips : goal.paint_one-requires-clause-skips
paint_one-requires-clause-skips c = c.loop-at.invariant.skips_are

pub paint_one-requires-clause-inside : goal.paint_one-requires-clause-inside
paint_one-requires-clause-inside c = omega (arith, c.loop-at-test.true, c.loop-at.invariant.counted, c.requires.to)

pub open_from-at-requires-in-loop-at-clause-skips : goal.open_from-at-requires-in-loop-at-clause-skips
open_from-at-requires-in-loop-at-clause-skips c = c.paint_one.ensures.skips

pub loop-at-preserved : goal.loop-at-preserved
loop-at-preserved c =
    paint_more c.args.self.now.rows.items c.loop-at.self.rows.items c.paint_one.new.self.rows.items c.open_from-at-in-loop-at.new.self.rows.items
    c.loop-at.self.skips.items c.open_from-at-in-loop-at.new.self.skips.items c.args.from c.args.to c.loop-at.at c.open_from-at-in-loop-at.result
    c.args.row c.loop-at.invariant (omega (arith, c.loop-at-test.true)) c.requires.to c.paint_one.ensures.painted
    c.open_from-at-in-loop-at.ensures.skips c.open_from-at-in-loop-at.ensures.rows c.open_from-at-in-loop-at.ensures.next

pub returns-clause-skips : goal.returns-clause-skips
returns-clause-skips c = c.loop-at.invariant.skips_are

pub returns-clause-painted : goal.returns-clause-painted
returns-clause-painted c =
    paint_end c.args.self.now.rows.items c.loop-at.self.rows.items c.loop-at.self.skips.items c.args.from c.args.to c.loop-at.at c.args.row
    c.loop-at.invariant (omega (arith, c.loop-at-test.false))
