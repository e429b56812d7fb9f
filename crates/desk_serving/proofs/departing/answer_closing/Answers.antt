use Rattle.desk_serving.proofs.Closings.{word_closed, none_asked}
use Rattle.desk_serving.proofs.Goes.{fails_behind, goes_further}
use Rattle.std.proofs.Common.{◌∙◌}
use Rattle.desk_serving.proofs.Daily.{day_as}
use Rattle.desk_serving.proofs.departing.answer_closing.Goals as goal

pub returns-in-Ok-clause-answered : goal.returns-in-Ok-clause-answered
returns-in-Ok-clause-answered g c =
    word_closed c.args.hall.now c.answer_word.new.hall c.close_if.new.hall c.args.closes c.is_to_close-is_to_close.result
    c.in_default.ensures.answered c.in-Ok.ensures.closed c.is_to_close-is_to_close.ensures

pub returns-in-Err-close_if-clause-fails : goal.returns-in-Err-close_if-clause-fails
returns-in-Err-close_if-clause-fails g c =
    fails_behind g.D.Tape.seen g.D.Tape.may_leave g.D.Tape.unsynced g.D.Failures.failure_count c.args.hall.now.serving c.answer_word.new.hall.serving
    c.close_if.new.hall.serving c.in-Err-close_if.fault c.in_default.ensures.goes c.in-Err-close_if.ensures.fails

pub answer_word-requires-clause-ready : goal.answer_word-requires-clause-ready
answer_word-requires-clause-ready g c = c.requires.ready

pub answer_word-requires-clause-dated : goal.answer_word-requires-clause-dated
answer_word-requires-clause-dated g c = c.requires.dated

pub close_if-requires-clause-ready : goal.close_if-requires-clause-ready
close_if-requires-clause-ready g c = c.in_default.ensures.goes.is_ready

pub close_if-requires-clause-none : goal.close_if-requires-clause-none
close_if-requires-clause-none g c = none_asked c.args.hall.now c.answer_word.new.hall c.in_default.ensures.answered

pub close_if-requires-clause-dated : goal.close_if-requires-clause-dated
close_if-requires-clause-dated g c =
    day_as c.args.hall.now.today c.answer_word.new.hall.today c.args.entry.now (g.K.Replaced.may_leave c.args.seals.now) c.requires.dated
    c.answer_word.ensures.day

pub returns-in-Ok-clause-goes : goal.returns-in-Ok-clause-goes
returns-in-Ok-clause-goes g c =
    goes_further g.D.Tape.seen g.D.Tape.may_leave g.D.Tape.unsynced g.D.Failures.failure_count c.args.hall.now.serving c.answer_word.new.hall.serving
    c.close_if.new.hall.serving c.in_default.ensures.goes c.in-Ok.ensures.goes

pub returns-in-Ok-clause-day : goal.returns-in-Ok-clause-day
returns-in-Ok-clause-day g c = c.close_if.ensures.day ∙ c.answer_word.ensures.day

pub returns-in-Err-clause-fails : goal.returns-in-Err-clause-fails
returns-in-Err-clause-fails g c = c.in-Err.ensures.fails

pub returns-in-Err-clause-day : goal.returns-in-Err-clause-day
returns-in-Err-clause-day g c = c.answer_word.ensures.day

pub returns-in-Err-close_if-clause-day : goal.returns-in-Err-close_if-clause-day
returns-in-Err-close_if-clause-day g c = c.close_if.ensures.day ∙ c.answer_word.ensures.day
