use Rattle.seat_desk.proofs.Texts.{put_whole}
use Rattle.seat_lists.proofs.LiveTexts.{one_more}
use Rattle.limit_changes.specs.Lines.{IsRowLine}
use Rattle.limit_changes.proofs.lines.put_rows.Goals as goal

pub loop-i-preserved : goal.loop-i-preserved
loop-i-preserved c =
    one_more IsRowLine c.loop-i.i c.args.rows.now c.index-rows-i.result c.args.text.now.items c.loop-i.text.items c.put_line.new.text.items
    c.loop-i.invariant c.loop-i-test.true c.index-rows-i.is c.in_ok-put_line.ensures

pub returns : goal.returns
returns c =
    put_whole (λ n. IsRowLine) 0 c.loop-i.i c.args.rows.now c.args.text.now.items c.loop-i.text.items c.loop-i.invariant c.loop-i-test.false
