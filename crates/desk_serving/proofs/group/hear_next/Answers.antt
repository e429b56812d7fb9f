use Rattle.std.proofs.Common.{ℕ, List, refl, subst}
use Rattle.desk_serving.specs.Groups.{IsForgotten}
use Rattle.desk_serving.proofs.Daily.{day_as}
use Rattle.desk_serving.proofs.Goes.{fails_from, goes_from, goes_same, ready_as}
use Rattle.desk_serving.proofs.Groups.{wanting}
use Rattle.desk_serving.proofs.group.hear_next.Goals as goal

pub returns-in-Ok-answer_heard-clause-taken : goal.returns-in-Ok-answer_heard-clause-taken
returns-in-Ok-answer_heard-clause-taken g c =
    wanting c.args.hall.now c.hear.new.hall c.answer_heard.new.hall c.args.one.now.session c.args.one.now.passed c.args.one.now.line.items
    c.want_of-want.result c.deliver.result
    (subst (λ (l : List ℕ). IsForgotten c.args.hall.now c.hear.new.hall c.args.one.now.session c.args.one.now.passed l) c.as_slice.ensures.value
    c.in_default.ensures.forgotten)
    c.in-Ok-answer_heard.ensures.answered c.want_of-want.ensures c.deliver.ensures

pub returns-then-session-count-clause-goes : goal.returns-then-session-count-clause-goes
returns-then-session-count-clause-goes g c =
    goes_same g.D.Tape.seen g.D.Tape.may_leave g.D.Tape.unsynced g.D.Failures.failure_count c.args.hall.now.serving
    c.args.hall.now.serving c.requires.ready refl

pub returns-in-Ok-clause-goes : goal.returns-in-Ok-clause-goes
returns-in-Ok-clause-goes g c =
    goes_same g.D.Tape.seen g.D.Tape.may_leave g.D.Tape.unsynced g.D.Failures.failure_count c.args.hall.now.serving
    c.hear.new.hall.serving c.requires.ready c.hear.ensures.same

pub answer_heard-requires-clause-ready : goal.answer_heard-requires-clause-ready
answer_heard-requires-clause-ready g c =
    ready_as g.D.Tape.seen g.D.Tape.may_leave g.D.Tape.unsynced g.D.Failures.failure_count c.args.hall.now.serving
    c.hear.new.hall.serving c.requires.ready c.hear.ensures.same

pub answer_heard-requires-clause-dated : goal.answer_heard-requires-clause-dated
answer_heard-requires-clause-dated g c =
    day_as c.args.hall.now.today c.hear.new.hall.today c.args.entry.now (g.K.Replaced.may_leave c.args.seals.now) c.requires.dated
    c.in_default.ensures.memory

pub returns-in-Ok-answer_heard-clause-goes : goal.returns-in-Ok-answer_heard-clause-goes
returns-in-Ok-answer_heard-clause-goes g c =
    goes_from g.D.Tape.seen g.D.Tape.may_leave g.D.Tape.unsynced g.D.Failures.failure_count c.args.hall.now.serving
    c.hear.new.hall.serving c.answer_heard.new.hall.serving c.in-Ok-answer_heard.ensures.goes c.hear.ensures.same

pub returns-in-Err-clause-fails : goal.returns-in-Err-clause-fails
returns-in-Err-clause-fails g c =
    fails_from g.D.Tape.seen g.D.Tape.may_leave g.D.Tape.unsynced g.D.Failures.failure_count c.args.hall.now.serving
    c.hear.new.hall.serving c.answer_heard.new.hall.serving c.in-Err.fault c.in-Err.ensures.fails c.hear.ensures.same
