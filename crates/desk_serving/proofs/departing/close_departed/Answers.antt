use Rattle.desk_serving.proofs.Closings.{closed_whole, closed_wanting}
use Rattle.std.proofs.Common.{◌∙◌}
use Rattle.desk_serving.proofs.Daily.{day_as}
use Rattle.desk_serving.proofs.Goes.{fails_from, goes_from, ready_as}
use Rattle.desk_serving.proofs.departing.close_departed.Goals as goal

pub returns-in-Ok-clause-closed : goal.returns-in-Ok-clause-closed
returns-in-Ok-clause-closed g c =
    closed_whole c.args.hall.now c.set_departed-set.new.hall c.answer_heard.new.hall c.requires.none c.in-Ok.ensures.whole
    c.in_default.ensures.answered

pub answer_heard-requires-clause-ready : goal.answer_heard-requires-clause-ready
answer_heard-requires-clause-ready g c =
    ready_as g.D.Tape.seen g.D.Tape.may_leave g.D.Tape.unsynced g.D.Failures.failure_count c.args.hall.now.serving c.set_departed-set.new.hall.serving
    c.requires.ready c.set_departed-set.ensures.same.serving_is

pub answer_heard-requires-clause-dated : goal.answer_heard-requires-clause-dated
answer_heard-requires-clause-dated g c =
    day_as c.args.hall.now.today c.set_departed-set.new.hall.today c.args.entry.now (g.K.Replaced.may_leave c.args.seals.now) c.requires.dated
    c.set_departed-set.ensures.same.today_is

pub returns-in-Ok-clause-goes : goal.returns-in-Ok-clause-goes
returns-in-Ok-clause-goes g c =
    goes_from g.D.Tape.seen g.D.Tape.may_leave g.D.Tape.unsynced g.D.Failures.failure_count c.args.hall.now.serving c.set_departed-set.new.hall.serving
    c.answer_heard.new.hall.serving c.in_default.ensures.goes c.set_departed-set.ensures.same.serving_is

pub returns-in-Ok-clause-day : goal.returns-in-Ok-clause-day
returns-in-Ok-clause-day g c = c.answer_heard.ensures.day ∙ c.set_departed-set.ensures.same.today_is

pub returns-in-Err-set-clause-closed : goal.returns-in-Err-set-clause-closed
returns-in-Err-set-clause-closed g c =
    closed_wanting c.args.hall.now c.set_departed-set.new.hall c.answer_heard.new.hall c.unclosed.result c.deliver.result c.in-Err-set.ensures.memory
    c.in_default.ensures.answered c.unclosed.ensures c.deliver.ensures

pub returns-in-Err-set-clause-goes : goal.returns-in-Err-set-clause-goes
returns-in-Err-set-clause-goes g c =
    goes_from g.D.Tape.seen g.D.Tape.may_leave g.D.Tape.unsynced g.D.Failures.failure_count c.args.hall.now.serving c.set_departed-set.new.hall.serving
    c.answer_heard.new.hall.serving c.in_default.ensures.goes c.set_departed-set.ensures.same.serving_is

pub returns-in-Err-set-clause-day : goal.returns-in-Err-set-clause-day
returns-in-Err-set-clause-day g c = c.answer_heard.ensures.day ∙ c.set_departed-set.ensures.same.today_is

pub returns-in-Err-clause-fails : goal.returns-in-Err-clause-fails
returns-in-Err-clause-fails g c =
    fails_from g.D.Tape.seen g.D.Tape.may_leave g.D.Tape.unsynced g.D.Failures.failure_count c.args.hall.now.serving c.set_departed-set.new.hall.serving
    c.answer_heard.new.hall.serving c.in-Err.fault c.in-Err.ensures.fails c.set_departed-set.ensures.same.serving_is

pub returns-in-Err-clause-day : goal.returns-in-Err-clause-day
returns-in-Err-clause-day g c = c.answer_heard.ensures.day ∙ c.set_departed-set.ensures.same.today_is
