use Rattle.seat_desk.proofs.Texts.{put_whole}
use Rattle.season_changes.specs.Lines.{IsChangePart}
use Rattle.season_changes.proofs.Lines.{line_more}
use Rattle.season_changes.proofs.line.put_changes.Goals as goal

pub loop-i-preserved : goal.loop-i-preserved
loop-i-preserved c =
    line_more c.args.has_journal c.loop-i.i c.args.all.now c.index-all-i.result c.args.text.now.items c.loop-i.text.items c.put_change.new.text.items
    c.loop-i.invariant c.loop-i-test.true c.index-all-i.is c.in_ok-put_change.ensures

pub returns : goal.returns
returns c =
    put_whole (λ n. IsChangePart c.args.has_journal) 0 c.loop-i.i c.args.all.now c.args.text.now.items c.loop-i.text.items c.loop-i.invariant c.loop-i-test.false
