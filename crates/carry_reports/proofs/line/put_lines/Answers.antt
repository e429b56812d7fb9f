use Rattle.seat_desk.proofs.Texts.{put_whole}
use Rattle.seat_lists.proofs.LiveTexts.{one_more}
use Rattle.carry_reports.specs.Lines.{IsFatedLine}
use Rattle.carry_reports.proofs.line.put_lines.Goals as goal

pub loop-i-preserved : goal.loop-i-preserved
loop-i-preserved c =
    one_more (IsFatedLine c.args.counts.now c.args.olds.now c.args.news.now) c.loop-i.i c.args.all.now c.index-all-i.result c.args.text.now.items c.loop-i.text.items c.put_line.new.text.items
    c.loop-i.invariant c.loop-i-test.true c.index-all-i.is c.in_ok-put_line.ensures

pub returns : goal.returns
returns c =
    put_whole (λ n. IsFatedLine c.args.counts.now c.args.olds.now c.args.news.now) 0 c.loop-i.i c.args.all.now c.args.text.now.items c.loop-i.text.items c.loop-i.invariant c.loop-i-test.false
