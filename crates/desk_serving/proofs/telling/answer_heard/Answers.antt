use Rattle.desk_serving.proofs.Goes.{fails_behind}
use Rattle.desk_serving.proofs.telling.answer_heard.Goals as goal

pub returns-in-Err-tell_heard-clause-fails : goal.returns-in-Err-tell_heard-clause-fails
returns-in-Err-tell_heard-clause-fails g c =
    fails_behind g.D.Tape.seen g.D.Tape.may_leave g.D.Tape.unsynced g.D.Failures.failure_count c.args.hall.now.serving c.book_heard.new.hall.serving
    c.tell_heard.new.hall.serving c.in-Err-tell_heard.fault c.in-Ok.ensures.goes c.in-Err-tell_heard.ensures.fails
