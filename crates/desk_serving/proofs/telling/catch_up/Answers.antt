use Rattle.std.proofs.Common.{refl, rules, ◌∙◌}
use Rattle.desk_serving.proofs.Goes.{fails_wanting, goes_as, goes_same}
use Rattle.desk_serving.proofs.Groups.{taught_all}
use Rattle.desk_serving.proofs.telling.catch_up.Goals as goal

pub returns-in-Ok-clause-caught : goal.returns-in-Ok-clause-caught
returns-in-Ok-clause-caught g c =
    taught_all c.args.hall.now c.answer_heard.new.hall c.give_rest.new.hall c.args.session c.in-Ok._told c.is_behind.result c.is_behind.ensures
    (search rules) c.in_default.ensures.answered c.in-Ok.ensures.given

pub returns-in-Err-give_rest-clause-fails : goal.returns-in-Err-give_rest-clause-fails
returns-in-Err-give_rest-clause-fails g c =
    fails_wanting g.D.Tape.seen g.D.Tape.may_leave g.D.Tape.unsynced g.D.Failures.failure_count c.args.hall.now.serving
    c.answer_heard.new.hall.serving c.give_rest.new.hall.serving c.in_default.ensures.goes c.give_rest.ensures.same.0

pub returns-then-not-is_behind-clause-goes : goal.returns-then-not-is_behind-clause-goes
returns-then-not-is_behind-clause-goes g c =
    goes_same g.D.Tape.seen g.D.Tape.may_leave g.D.Tape.unsynced g.D.Failures.failure_count c.args.hall.now.serving
    c.args.hall.now.serving c.requires.ready refl

pub returns-in-Ok-clause-goes : goal.returns-in-Ok-clause-goes
returns-in-Ok-clause-goes g c =
    goes_as g.D.Tape.seen g.D.Tape.may_leave g.D.Tape.unsynced g.D.Failures.failure_count c.args.hall.now.serving
    c.answer_heard.new.hall.serving c.give_rest.new.hall.serving c.in_default.ensures.goes c.give_rest.ensures.same.0

pub returns-in-Ok-clause-day : goal.returns-in-Ok-clause-day
returns-in-Ok-clause-day g c = c.give_rest.ensures.same.1 ∙ c.answer_heard.ensures.day

pub returns-in-Err-give_rest-clause-day : goal.returns-in-Err-give_rest-clause-day
returns-in-Err-give_rest-clause-day g c = c.give_rest.ensures.same.1 ∙ c.answer_heard.ensures.day
