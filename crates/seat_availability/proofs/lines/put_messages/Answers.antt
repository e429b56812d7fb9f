use Rattle.seat_desk.proofs.Texts.{put_whole}
use Rattle.seat_lists.proofs.LiveTexts.{one_more}
use Rattle.seat_availability.specs.Lines.{IsMessageLine}
use Rattle.seat_availability.proofs.lines.put_messages.Goals as goal

pub loop-i-preserved : goal.loop-i-preserved
loop-i-preserved c =
    one_more IsMessageLine c.loop-i.i c.args.messages.now c.index-messages-i.result c.args.text.now.items c.loop-i.text.items c.put_message.new.text.items
    c.loop-i.invariant c.loop-i-test.true c.index-messages-i.is c.in_ok-put_message.ensures

pub returns : goal.returns
returns c =
    put_whole (λ n. IsMessageLine) 0 c.loop-i.i c.args.messages.now c.args.text.now.items c.loop-i.text.items c.loop-i.invariant c.loop-i-test.false
