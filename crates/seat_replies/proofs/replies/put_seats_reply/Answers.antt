use Rattle.std.proofs.Common.{subst}
use Rattle.seat_replies.specs.Answering.{IsBehind}
use Rattle.seat_replies.specs.RunDesk.{IsReply}
use Rattle.seat_replies.specs.declared.replies.Answered.{Answered}
use Rattle.seat_replies.proofs.Parts.{seats_put}
use Rattle.seat_replies.proofs.replies.put_seats_reply.Goals as goal

pub returns : goal.returns
returns c =
    seats_put c.args.requests.now c.args.place c.args.entry.now c.index-requests-place.result c.args.text.now.items c.put_reply.new.text.items c.requires c.index-requests-place.is
    (subst (λ (x : Answered). IsBehind (IsReply c.args.entry.now x c.args.entry.now.reply c.index-requests-place.result.segment.seats) c.args.text.now.items c.put_reply.new.text.items) c.of_request.ensures c.in_ok-put_reply.ensures)
