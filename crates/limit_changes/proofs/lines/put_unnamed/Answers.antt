use Rattle.seat_desk.proofs.Texts.{put_whole}
use Rattle.seat_lists.proofs.LiveTexts.{one_more}
use Rattle.limit_changes.specs.Lines.{IsUnnamedLine}
use Rattle.limit_changes.proofs.lines.put_unnamed.Goals as goal

pub loop-i-preserved : goal.loop-i-preserved
loop-i-preserved c =
    one_more IsUnnamedLine c.loop-i.i c.args.shorts.now c.index-shorts-i.result c.args.text.now.items c.loop-i.text.items c.put_unnamed_one.new.text.items
    c.loop-i.invariant c.loop-i-test.true c.index-shorts-i.is c.in_ok-put_unnamed_one.ensures

pub returns : goal.returns
returns c =
    put_whole (λ n. IsUnnamedLine) 0 c.loop-i.i c.args.shorts.now c.args.text.now.items c.loop-i.text.items c.loop-i.invariant c.loop-i-test.false
