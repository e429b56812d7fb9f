use Rattle.std.proofs.Common.{rules}
use Rattle.std.proofs.lemmas.Result.{on_ok_weaker}
use Rattle.desk_serving.proofs.Daily.{fails_by_behind_if, by_inventory, counts_none, day_as, stays_same}
use Rattle.desk_serving.proofs.Goes.{goes_further}
use Rattle.desk_serving.proofs.Groups.{one_apart, one_plain}
use Rattle.desk_serving.proofs.group.answer_one.Goals as goal

pub returns-clause-fails : goal.returns-clause-fails
returns-clause-fails g c =
    fails_by_behind_if g.D.Tape.seen g.D.Tape.may_leave g.D.Tape.unsynced g.D.Failures.failure_count c.args.hall.now.serving c.answer_heard.new.hall.serving
    c.hear_apart.new.hall.serving c.hear_apart.result c.in_default.ensures.goes c.hear_apart.ensures.fails

pub returns-clause-one : goal.returns-clause-one
returns-clause-one g c =
    one_apart c.args.closes c.args.hall.now c.answer_heard.new.hall c.hear_apart.new.hall c.args.one.now c.hear_apart.result (search rules)
    c.in_default.ensures.answered c.hear_apart.ensures.apart

pub hear_dated-requires-clause-ready : goal.hear_dated-requires-clause-ready
hear_dated-requires-clause-ready g c = c.requires.ready

pub hear_dated-requires-clause-dated : goal.hear_dated-requires-clause-dated
hear_dated-requires-clause-dated g c = c.requires.dated

pub answer_heard-requires-clause-ready : goal.answer_heard-requires-clause-ready
answer_heard-requires-clause-ready g c = c.requires.ready

pub answer_heard-requires-clause-dated : goal.answer_heard-requires-clause-dated
answer_heard-requires-clause-dated g c = c.requires.dated

pub hear_apart-requires-clause-ready : goal.hear_apart-requires-clause-ready
hear_apart-requires-clause-ready g c = c.in_default.ensures.goes.is_ready

pub hear_apart-requires-clause-dated : goal.hear_apart-requires-clause-dated
hear_apart-requires-clause-dated g c =
    day_as c.args.hall.now.today c.answer_heard.new.hall.today c.args.entry.now (g.K.Replaced.may_leave c.args.seals.now) c.requires.dated
    c.answer_heard.ensures.day

pub returns-then-not-is_apart-clause-one : goal.returns-then-not-is_apart-clause-one
returns-then-not-is_apart-clause-one g c =
    one_plain c.args.closes c.args.hall.now c.hear_dated.new.hall c.args.one.now c.hear_dated.result (search rules) c.hear_dated.ensures.taken

pub returns-then-not-is_apart-clause-goes : goal.returns-then-not-is_apart-clause-goes
returns-then-not-is_apart-clause-goes g c = c.hear_dated.ensures.goes

pub returns-then-not-is_apart-clause-fails : goal.returns-then-not-is_apart-clause-fails
returns-then-not-is_apart-clause-fails g c = c.hear_dated.ensures.fails

pub returns-then-not-is_apart-clause-sealed : goal.returns-then-not-is_apart-clause-sealed
returns-then-not-is_apart-clause-sealed g c = c.hear_dated.ensures.sealed

pub returns-then-not-is_apart-clause-stays : goal.returns-then-not-is_apart-clause-stays
returns-then-not-is_apart-clause-stays g c = c.hear_dated.ensures.stays

pub returns-then-not-is_apart-clause-unsealed : goal.returns-then-not-is_apart-clause-unsealed
returns-then-not-is_apart-clause-unsealed g c = c.hear_dated.ensures.unsealed

pub returns-in-Err-clause-fails : goal.returns-in-Err-clause-fails
returns-in-Err-clause-fails g c =
    by_inventory g.D.Tape.seen g.D.Tape.may_leave g.D.Tape.unsynced g.D.Failures.failure_count c.args.hall.now.serving c.answer_heard.new.hall.serving
    c.in-Err.fault c.in-Err.ensures.fails

pub returns-in-Err-clause-stays : goal.returns-in-Err-clause-stays
returns-in-Err-clause-stays g c =
    stays_same g.K.Replaced.named g.K.Replaced.may_leave g.K.Replaced.kept_may_leave g.K.Failures.failure_count c.args.entry.now c.args.seals.now

pub returns-in-Err-clause-unsealed : goal.returns-in-Err-clause-unsealed
returns-in-Err-clause-unsealed g c = counts_none g.K.Failures.failure_count c.args.seals.now c.args.seals.now c.in-Err.fault

pub returns-clause-sealed : goal.returns-clause-sealed
returns-clause-sealed g c = c.hear_apart.ensures.sealed

pub returns-clause-stays : goal.returns-clause-stays
returns-clause-stays g c = c.hear_apart.ensures.stays

pub returns-clause-unsealed : goal.returns-clause-unsealed
returns-clause-unsealed g c = c.hear_apart.ensures.unsealed

pub returns-clause-goes : goal.returns-clause-goes
returns-clause-goes g c =
    on_ok_weaker c.hear_apart.result
    (goes_further g.D.Tape.seen g.D.Tape.may_leave g.D.Tape.unsynced g.D.Failures.failure_count c.args.hall.now.serving
    c.answer_heard.new.hall.serving c.hear_apart.new.hall.serving c.in_default.ensures.goes)
    c.hear_apart.ensures.goes

pub hear_apart-requires-clause-begun : goal.hear_apart-requires-clause-begun
hear_apart-requires-clause-begun g c = c.begin_for-begun.ensures
