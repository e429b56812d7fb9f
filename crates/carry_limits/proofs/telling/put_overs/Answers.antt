use Rattle.seat_desk.proofs.Texts.{put_whole}
use Rattle.seat_lists.proofs.LiveTexts.{one_more}
use Rattle.carry_limits.specs.Overs.{IsOverLine}
use Rattle.carry_limits.proofs.telling.put_overs.Goals as goal

pub loop-i-preserved : goal.loop-i-preserved
loop-i-preserved c =
    one_more IsOverLine c.loop-i.i c.args.overs.now c.index-overs-i.result c.args.text.now.items c.loop-i.text.items c.put_over.new.text.items
    c.loop-i.invariant c.loop-i-test.true c.index-overs-i.is c.in_ok-put_over.ensures

pub returns : goal.returns
returns c =
    put_whole (λ n. IsOverLine) 0 c.loop-i.i c.args.overs.now c.args.text.now.items c.loop-i.text.items c.loop-i.invariant c.loop-i-test.false
