use Rattle.seat_replies.proofs.Parts.{answer_put}
use Rattle.seat_replies.proofs.replies.put_answer.Goals as goal

pub returns : goal.returns
returns c =
    answer_put c.args.flights.now c.args.requests.now c.args.journal.now c.args.place c.args.entry.now c.args.text.now.items c.put_line_reply.new.text.items c.put_advices.new.text.items
    c.in_ok-put_line_reply.ensures c.in_ok-put_advices.ensures
