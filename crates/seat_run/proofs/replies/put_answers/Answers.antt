use Rattle.std.proofs.Common.{arith}
use Rattle.seat_replies.proofs.Parts.{answers_more}
use Rattle.seat_run.proofs.replies.put_answers.Goals as goal

pub loop-place-preserved : goal.loop-place-preserved
loop-place-preserved c =
    answers_more c.args.flights.now c.args.requests.now c.args.journal.now c.loop-place.place c.args.receipts.now c.at.result.now c.args.text.now.items c.loop-place.text.items c.put_answer.new.text.items
    c.loop-place.invariant (omega (arith, c.loop-place-test.true, c.loop-place.auto.place-end)) c.at.ensures c.in_ok-put_answer.ensures
