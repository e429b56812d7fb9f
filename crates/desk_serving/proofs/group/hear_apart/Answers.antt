use Rattle.desk_serving.proofs.Daily.{by_inventory, counts_none, sealed_as}
use Rattle.desk_serving.proofs.Goes.{fails_behind, goes_further}
use Rattle.desk_serving.proofs.Groups.{apart}
use Rattle.desk_serving.proofs.group.hear_apart.Goals as goal

pub returns-in-Err-answer_closing-clause-fails : goal.returns-in-Err-answer_closing-clause-fails
returns-in-Err-answer_closing-clause-fails g c =
    by_inventory g.D.Tape.seen g.D.Tape.may_leave g.D.Tape.unsynced g.D.Failures.failure_count c.args.hall.now.serving c.answer_closing.new.hall.serving
    c.in-Err-answer_closing.fault
    (fails_behind g.D.Tape.seen g.D.Tape.may_leave g.D.Tape.unsynced g.D.Failures.failure_count c.args.hall.now.serving c.hear_dated.new.hall.serving
    c.answer_closing.new.hall.serving c.in-Err-answer_closing.fault c.in-Ok.ensures.goes c.in-Err-answer_closing.ensures.fails)

pub hear_dated-requires-clause-ready : goal.hear_dated-requires-clause-ready
hear_dated-requires-clause-ready g c = c.requires.ready

pub hear_dated-requires-clause-dated : goal.hear_dated-requires-clause-dated
hear_dated-requires-clause-dated g c = c.requires.dated

pub answer_closing-requires-clause-ready : goal.answer_closing-requires-clause-ready
answer_closing-requires-clause-ready g c = c.in-Ok.ensures.goes.is_ready

pub answer_closing-requires-clause-dated : goal.answer_closing-requires-clause-dated
answer_closing-requires-clause-dated g c = c.in-Ok.ensures.sealed.on_day

pub returns-in-Ok-answer_closing-clause-apart : goal.returns-in-Ok-answer_closing-clause-apart
returns-in-Ok-answer_closing-clause-apart g c =
    apart c.args.closes c.args.hall.now c.hear_dated.new.hall c.answer_closing.new.hall c.args.one.now c.in-Ok.goes_on c.in-Ok.ensures.taken
    c.in-Ok-answer_closing.ensures.answered

pub returns-in-Ok-answer_closing-clause-goes : goal.returns-in-Ok-answer_closing-clause-goes
returns-in-Ok-answer_closing-clause-goes g c =
    goes_further g.D.Tape.seen g.D.Tape.may_leave g.D.Tape.unsynced g.D.Failures.failure_count c.args.hall.now.serving c.hear_dated.new.hall.serving
    c.answer_closing.new.hall.serving c.in-Ok.ensures.goes c.in-Ok-answer_closing.ensures.goes

pub returns-in-Ok-answer_closing-clause-sealed : goal.returns-in-Ok-answer_closing-clause-sealed
returns-in-Ok-answer_closing-clause-sealed g c =
    sealed_as g.K.Replaced.named g.K.Replaced.may_leave g.K.Replaced.kept_may_leave g.K.Failures.failure_count c.hear_dated.new.hall.today
    c.answer_closing.new.hall.today c.args.entry.now c.hear_dated.new.entry c.args.seals.now c.hear_dated.new.seals c.answer_closing.ensures.day
    c.in-Ok.ensures.sealed

pub returns-in-Ok-answer_closing-clause-stays : goal.returns-in-Ok-answer_closing-clause-stays
returns-in-Ok-answer_closing-clause-stays g c = c.hear_dated.ensures.stays

pub returns-in-Err-clause-fails : goal.returns-in-Err-clause-fails
returns-in-Err-clause-fails g c = c.in-Err.ensures.fails

pub returns-in-Err-clause-stays : goal.returns-in-Err-clause-stays
returns-in-Err-clause-stays g c = c.hear_dated.ensures.stays

pub returns-in-Err-clause-unsealed : goal.returns-in-Err-clause-unsealed
returns-in-Err-clause-unsealed g c = c.in-Err.ensures.unsealed

pub returns-in-Err-answer_closing-clause-stays : goal.returns-in-Err-answer_closing-clause-stays
returns-in-Err-answer_closing-clause-stays g c = c.hear_dated.ensures.stays

pub returns-in-Err-answer_closing-clause-unsealed : goal.returns-in-Err-answer_closing-clause-unsealed
returns-in-Err-answer_closing-clause-unsealed g c =
    counts_none g.K.Failures.failure_count c.args.seals.now c.hear_dated.new.seals c.in-Err-answer_closing.fault
