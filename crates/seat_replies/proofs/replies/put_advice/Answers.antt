use Rattle.std.proofs.Common.{ℕ, List, ◌∙◌, subst, sym}
use Rattle.seat_replies.specs.Answering.{IsBehind}
use Rattle.seat_replies.specs.RunDesk.{IsReply}
use Rattle.seat_replies.proofs.Parts.{advice_put}
use Rattle.seat_replies.proofs.replies.put_advice.Goals as goal

pub returns : goal.returns
returns c =
    advice_put c.args.flights.now c.args.journal.now c.args.entry.now c.args.advice.now c.in-Some.answered c.args.text.now.items c.put_reply.new.text.items
    (sym c.booked_by.ensures ∙ c.in-Some.is)
    (subst (λ (k : List ℕ). IsBehind (IsReply c.args.entry.now c.in-Some.answered k c.args.advice.now.seats) c.args.text.now.items c.put_reply.new.text.items) c.of.ensures c.in_ok-put_reply.ensures)
