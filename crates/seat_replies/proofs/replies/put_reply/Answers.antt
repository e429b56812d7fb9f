use Rattle.seat_replies.proofs.Parts.{reply_put}
use Rattle.seat_replies.proofs.replies.put_reply.Goals as goal

pub returns : goal.returns
returns c =
    reply_put c.args.entry.now c.args.answered.now c.args.code c.args.seats c.args.text.now.items c.put_head.new.text.items c.put_segment.new.text.items c.put.new.text.items
    c.in_ok-put_head.ensures c.in_ok-put_segment.ensures c.in_ok-put.ensures
