use Rattle.seat_tables.proofs.Putting.{put_more, put_none, put_whole}
use Rattle.carry_tables.specs.FateRows.{carry_names, fate_rows}
use Rattle.carry_tables.proofs.rows.put_fates.Goals as goal

pub loop-i-init : goal.loop-i-init
loop-i-init c = put_none (carry_names c.args.counts.now) c.args.sheet.now c.requires.ready

pub loop-i-preserved : goal.loop-i-preserved
loop-i-preserved c =
    put_more (carry_names c.args.counts.now) (fate_rows c.args.counts.now c.args.olds.now c.args.news.now) 0 c.loop-i.i c.args.all.now c.index-all-i.result c.args.sheet.now c.loop-i.sheet c.put_fate.new.sheet
    c.loop-i.invariant c.loop-i-test.true c.index-all-i.is c.in_ok-put_fate.ensures

pub returns : goal.returns
returns c =
    put_whole (carry_names c.args.counts.now) (fate_rows c.args.counts.now c.args.olds.now c.args.news.now) 0 c.loop-i.i c.args.all.now c.args.sheet.now c.loop-i.sheet c.loop-i.invariant c.loop-i-test.false
