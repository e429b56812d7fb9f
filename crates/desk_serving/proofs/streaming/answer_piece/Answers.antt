use Rattle.desk_serving.proofs.Breaking.{no_dating_stopped, no_input_of, no_input_stopped, no_output_stopped}
use Rattle.desk_serving.proofs.Days.{day_answered, days_answered}
use Rattle.desk_serving.proofs.Hearing.{lived_on}
use Rattle.desk_serving.proofs.Streamed.{breaks_from, breaks_stopped, goes_heard, is_piece, no_strange, none_asked, ready_heard, strange_end}
use Rattle.desk_serving.proofs.Written.{front_answered, front_unanswered, piece_unanswered}
use Rattle.desk_serving.proofs.streaming.answer_piece.Goals as goal

pub answer_heard-requires-clause-ready : goal.answer_heard-requires-clause-ready
answer_heard-requires-clause-ready g c =
    ready_heard g.D.Tape.seen g.D.Tape.may_leave g.D.Tape.unsynced c.args.feed.now c.hear_piece.new.feed c.requires.ready
    c.hear_piece.ensures.same

pub answer_heard-requires-clause-dated : goal.answer_heard-requires-clause-dated
answer_heard-requires-clause-dated g c = c.requires.dated

pub returns-in-Ok-answer_heard-clause-piece : goal.returns-in-Ok-answer_heard-clause-piece
returns-in-Ok-answer_heard-clause-piece g c =
    is_piece c.args.feed.now c.hear_piece.new.feed c.answer_heard.new.feed c.args.line.now.items c.args.piece.now
    c.hear_piece.new.line.items (g.W.Write.contents c.args.out.now) (g.W.Write.contents c.answer_heard.new.out) c.in-Ok.ensures.hears
    c.in-Ok-answer_heard.ensures.answered

pub returns-in-Ok-answer_heard-clause-none : goal.returns-in-Ok-answer_heard-clause-none
returns-in-Ok-answer_heard-clause-none g c =
    none_asked c.hear_piece.new.feed c.answer_heard.new.feed (g.W.Write.contents c.args.out.now)
    (g.W.Write.contents c.answer_heard.new.out) c.in-Ok-answer_heard.ensures.answered

pub returns-in-Ok-answer_heard-clause-lived : goal.returns-in-Ok-answer_heard-clause-lived
returns-in-Ok-answer_heard-clause-lived g c =
    lived_on c.args.feed.now c.hear_piece.new.feed c.answer_heard.new.feed c.hear_piece.ensures.lived c.in-Ok-answer_heard.ensures.lived

pub returns-in-Ok-answer_heard-clause-goes : goal.returns-in-Ok-answer_heard-clause-goes
returns-in-Ok-answer_heard-clause-goes g c =
    goes_heard g.D.Tape.seen g.D.Tape.may_leave g.D.Tape.unsynced g.D.Failures.failure_count c.args.feed.now c.hear_piece.new.feed
    c.answer_heard.new.feed c.hear_piece.ensures.same c.in-Ok-answer_heard.ensures.goes

pub returns-in-Ok-answer_heard-clause-sealed : goal.returns-in-Ok-answer_heard-clause-sealed
returns-in-Ok-answer_heard-clause-sealed g c = c.in-Ok-answer_heard.ensures.sealed

pub returns-in-Ok-answer_heard-clause-day : goal.returns-in-Ok-answer_heard-clause-day
returns-in-Ok-answer_heard-clause-day g c =
    day_answered c.hear_piece.new.feed c.answer_heard.new.feed (g.W.Write.contents c.args.out.now)
    (g.W.Write.contents c.answer_heard.new.out) c.args.day.now c.answer_heard.new.day c.in-Ok-answer_heard.ensures.answered
    c.in-Ok-answer_heard.ensures.day

pub returns-in-Ok-answer_heard-clause-days : goal.returns-in-Ok-answer_heard-clause-days
returns-in-Ok-answer_heard-clause-days g c =
    days_answered c.args.feed.now c.hear_piece.new.feed c.answer_heard.new.feed (g.W.Write.contents c.args.out.now)
    (g.W.Write.contents c.answer_heard.new.out) c.in-Ok-answer_heard.ensures.answered c.hear_piece.ensures.days

pub returns-in-Ok-answer_heard-clause-counted : goal.returns-in-Ok-answer_heard-clause-counted
returns-in-Ok-answer_heard-clause-counted g c = c.in-Ok-answer_heard.ensures.counted

pub returns-in-Ok-answer_heard-clause-stays : goal.returns-in-Ok-answer_heard-clause-stays
returns-in-Ok-answer_heard-clause-stays g c = c.answer_heard.ensures.stays

pub returns-in-Err-answer_heard-clause-breaks : goal.returns-in-Err-answer_heard-clause-breaks
returns-in-Err-answer_heard-clause-breaks g c =
    breaks_from g.D.Tape.seen g.D.Tape.may_leave g.D.Tape.unsynced g.D.Failures.failure_count c.args.feed.now c.hear_piece.new.feed
    c.answer_heard.new.feed c.in-Err-answer_heard.fault c.hear_piece.ensures.same c.in-Err-answer_heard.ensures.breaks

pub returns-in-Err-answer_heard-clause-stays : goal.returns-in-Err-answer_heard-clause-stays
returns-in-Err-answer_heard-clause-stays g c = c.answer_heard.ensures.stays

pub returns-in-Err-answer_heard-clause-strange : goal.returns-in-Err-answer_heard-clause-strange
returns-in-Err-answer_heard-clause-strange g c =
    no_strange c.args.feed.now c.answer_heard.new.feed c.in-Err-answer_heard.fault c.in-Err-answer_heard.ensures.kind

pub returns-in-Err-answer_heard-clause-broken : goal.returns-in-Err-answer_heard-clause-broken
returns-in-Err-answer_heard-clause-broken g c =
    piece_unanswered c.args.feed.now c.hear_piece.new.feed c.answer_heard.new.feed c.args.line.now.items c.args.piece.now
    c.hear_piece.new.line.items c.in-Err-answer_heard.fault (g.W.Write.contents c.args.out.now) (g.W.Write.contents c.answer_heard.new.out)
    c.in-Ok.ensures.hears c.in-Err-answer_heard.ensures.ends

pub returns-in-Err-answer_heard-clause-input : goal.returns-in-Err-answer_heard-clause-input
returns-in-Err-answer_heard-clause-input g c = no_input_of c.in-Err-answer_heard.fault c.in-Err-answer_heard.ensures.kind

pub returns-in-Err-answer_heard-clause-output : goal.returns-in-Err-answer_heard-clause-output
returns-in-Err-answer_heard-clause-output g c = c.in-Err-answer_heard.ensures.output

pub returns-in-Err-answer_heard-clause-dating : goal.returns-in-Err-answer_heard-clause-dating
returns-in-Err-answer_heard-clause-dating g c = c.in-Err-answer_heard.ensures.dating

pub answer_heard-requires-in-Err-clause-ready : goal.answer_heard-requires-in-Err-clause-ready
answer_heard-requires-in-Err-clause-ready g c =
    ready_heard g.D.Tape.seen g.D.Tape.may_leave g.D.Tape.unsynced c.args.feed.now c.hear_piece.new.feed c.requires.ready
    c.hear_piece.ensures.same

pub answer_heard-requires-in-Err-clause-dated : goal.answer_heard-requires-in-Err-clause-dated
answer_heard-requires-in-Err-clause-dated g c = c.requires.dated

pub returns-in-Ok-answer_heard-2-clause-breaks : goal.returns-in-Ok-answer_heard-2-clause-breaks
returns-in-Ok-answer_heard-2-clause-breaks g c =
    breaks_stopped g.D.Tape.seen g.D.Tape.may_leave g.D.Tape.unsynced g.D.Failures.failure_count c.args.feed.now c.hear_piece.new.feed
    c.answer_heard-in-Err.new.feed c.in-Err.heard c.stopped.result c.hear_piece.ensures.same c.in-Ok-answer_heard-2.ensures.goes
    c.stopped.ensures

pub returns-in-Ok-answer_heard-2-clause-strange : goal.returns-in-Ok-answer_heard-2-clause-strange
returns-in-Ok-answer_heard-2-clause-strange g c =
    strange_end c.args.feed.now c.hear_piece.new.feed c.answer_heard-in-Err.new.feed (g.W.Write.contents c.args.out.now)
    (g.W.Write.contents c.answer_heard-in-Err.new.out) c.in-Err.heard c.stopped.result c.hear_piece.ensures.lived c.in-Err.ensures.strange
    c.in-Ok-answer_heard-2.ensures.answered c.stopped.ensures

pub returns-in-Ok-answer_heard-2-clause-broken : goal.returns-in-Ok-answer_heard-2-clause-broken
returns-in-Ok-answer_heard-2-clause-broken g c =
    front_answered c.args.feed.now c.hear_piece.new.feed c.answer_heard-in-Err.new.feed c.args.line.now.items c.args.piece.now
    c.in-Err.heard c.stopped.result (g.W.Write.contents c.args.out.now) (g.W.Write.contents c.answer_heard-in-Err.new.out)
    c.in-Err.ensures.front c.in-Ok-answer_heard-2.ensures.answered c.in-Err.ensures.memory c.stopped.ensures

pub returns-in-Ok-answer_heard-2-clause-stays : goal.returns-in-Ok-answer_heard-2-clause-stays
returns-in-Ok-answer_heard-2-clause-stays g c = c.answer_heard-in-Err.ensures.stays

pub returns-in-Ok-answer_heard-2-clause-input : goal.returns-in-Ok-answer_heard-2-clause-input
returns-in-Ok-answer_heard-2-clause-input g c =
    no_input_stopped c.answer_heard-in-Err.new.feed c.in-Err.heard c.stopped.result c.stopped.ensures

pub returns-in-Ok-answer_heard-2-clause-output : goal.returns-in-Ok-answer_heard-2-clause-output
returns-in-Ok-answer_heard-2-clause-output g c =
    no_output_stopped c.answer_heard-in-Err.new.feed c.in-Err.heard c.stopped.result _ _ c.stopped.ensures

pub returns-in-Ok-answer_heard-2-clause-dating : goal.returns-in-Ok-answer_heard-2-clause-dating
returns-in-Ok-answer_heard-2-clause-dating g c =
    no_dating_stopped g.K.Failures.failure_count c.args.seals.now c.answer_heard-in-Err.new.seals c.answer_heard-in-Err.new.feed
    c.in-Err.heard c.stopped.result c.stopped.ensures

pub returns-in-Err-answer_heard-2-clause-breaks : goal.returns-in-Err-answer_heard-2-clause-breaks
returns-in-Err-answer_heard-2-clause-breaks g c =
    breaks_from g.D.Tape.seen g.D.Tape.may_leave g.D.Tape.unsynced g.D.Failures.failure_count c.args.feed.now c.hear_piece.new.feed
    c.answer_heard-in-Err.new.feed c.in-Err-answer_heard-2.fault c.hear_piece.ensures.same c.in-Err-answer_heard-2.ensures.breaks

pub returns-in-Err-answer_heard-2-clause-stays : goal.returns-in-Err-answer_heard-2-clause-stays
returns-in-Err-answer_heard-2-clause-stays g c = c.answer_heard-in-Err.ensures.stays

pub returns-in-Err-answer_heard-2-clause-strange : goal.returns-in-Err-answer_heard-2-clause-strange
returns-in-Err-answer_heard-2-clause-strange g c =
    no_strange c.args.feed.now c.answer_heard-in-Err.new.feed c.in-Err-answer_heard-2.fault c.in-Err-answer_heard-2.ensures.kind

pub returns-in-Err-answer_heard-2-clause-broken : goal.returns-in-Err-answer_heard-2-clause-broken
returns-in-Err-answer_heard-2-clause-broken g c =
    front_unanswered c.args.feed.now c.hear_piece.new.feed c.answer_heard-in-Err.new.feed c.args.line.now.items c.args.piece.now
    c.in-Err-answer_heard-2.fault (g.W.Write.contents c.args.out.now) (g.W.Write.contents c.answer_heard-in-Err.new.out)
    c.in-Err.ensures.front c.in-Err-answer_heard-2.ensures.ends

pub returns-in-Err-answer_heard-2-clause-input : goal.returns-in-Err-answer_heard-2-clause-input
returns-in-Err-answer_heard-2-clause-input g c = no_input_of c.in-Err-answer_heard-2.fault c.in-Err-answer_heard-2.ensures.kind

pub returns-in-Err-answer_heard-2-clause-output : goal.returns-in-Err-answer_heard-2-clause-output
returns-in-Err-answer_heard-2-clause-output g c = c.in-Err-answer_heard-2.ensures.output

pub returns-in-Err-answer_heard-2-clause-dating : goal.returns-in-Err-answer_heard-2-clause-dating
returns-in-Err-answer_heard-2-clause-dating g c = c.in-Err-answer_heard-2.ensures.dating
