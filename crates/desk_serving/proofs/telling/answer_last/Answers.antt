use Rattle.desk_serving.proofs.Goes.{fails_wanting}
use Rattle.desk_serving.proofs.telling.answer_last.Goals as goal

pub returns-in-Err-tell_pieces-clause-fails : goal.returns-in-Err-tell_pieces-clause-fails
returns-in-Err-tell_pieces-clause-fails g c =
    fails_wanting g.D.Tape.seen g.D.Tape.may_leave g.D.Tape.unsynced g.D.Failures.failure_count c.args.hall.now.serving
    c.answer_heard.new.hall.serving c.tell_pieces.new.hall.serving c.in_default.ensures.goes c.tell_pieces.ensures.same.0
