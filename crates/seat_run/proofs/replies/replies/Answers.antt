use Rattle.std.proofs.Common.{arith, []}
use Rattle.seat_replies.proofs.Parts.{session_answerable, sessions_more}
use Rattle.seat_run.proofs.replies.replies.Goals as goal

pub put_session-requires : goal.put_session-requires
put_session-requires c = record {
  lines = session_answerable c.args.flights.now c.args.scripts.now c.args.journal.now c.args.past.now.calls c.args.receipts.now c.loop-session.session c.at-own.result c.behind-lines.result
      c.requires.lines (omega (arith, c.requires.few, c.type_inv.past)) (omega (arith, c.loop-session-test.true, c.loop-session.auto.session-end)) c.at-own.ensures c.behind-lines.ensures;
}

pub loop-session-preserved : goal.loop-session-preserved
loop-session-preserved c =
    sessions_more c.args.flights.now c.args.scripts.now c.args.journal.now c.args.past.now.calls c.args.receipts.now c.loop-session.session c.at-own.result c.behind-lines.result
    [] c.loop-session.text.items c.put_session.new.text.items c.loop-session.invariant (omega (arith, c.requires.few, c.type_inv.past)) (omega (arith, c.loop-session-test.true, c.loop-session.auto.session-end))
    c.at-own.ensures c.behind-lines.ensures c.in_ok-put_session.ensures
