use Rattle.std.proofs.Common.{arith, refl}
use Rattle.desk_serving.proofs.Daily.{by_inventory, counts_behind, fails_by_behind, sealed_further, stays_behind, counts_none, sealed_as, sealed_same}
use Rattle.desk_serving.proofs.Goes.{fails_behind, goes_further, goes_same}
use Rattle.desk_serving.proofs.Groups.{is_group, taken_more, none_taken}
use Rattle.desk_serving.proofs.group.answer_group.Goals as goal

pub returns-in-Err-clause-fails : goal.returns-in-Err-clause-fails
returns-in-Err-clause-fails g c =
    fails_by_behind g.D.Tape.seen g.D.Tape.may_leave g.D.Tape.unsynced g.D.Failures.failure_count c.args.hall.now.serving c.loop-one.hall.serving
    c.answer_one.new.hall.serving c.in-Err.fault c.loop-one.invariant.0 c.in-Err.ensures.fails

pub returns-in-Err-clause-stays : goal.returns-in-Err-clause-stays
returns-in-Err-clause-stays g c =
    stays_behind g.K.Replaced.named g.K.Replaced.may_leave g.K.Replaced.kept_may_leave g.K.Failures.failure_count c.loop-one.hall.today
    c.args.entry.now c.loop-one.entry c.args.seals.now c.loop-one.seals c.answer_one.new.seals c.loop-one.invariant.1 c.answer_one.ensures.stays

pub returns-in-Err-clause-unsealed : goal.returns-in-Err-clause-unsealed
returns-in-Err-clause-unsealed g c =
    counts_behind g.K.Replaced.named g.K.Replaced.may_leave g.K.Replaced.kept_may_leave g.K.Failures.failure_count c.loop-one.hall.today
    c.args.entry.now c.loop-one.entry c.args.seals.now c.loop-one.seals c.answer_one.new.seals c.in-Err.fault c.loop-one.invariant.1
    c.in-Err.ensures.unsealed

pub returns-in-Err-answer_last-clause-fails : goal.returns-in-Err-answer_last-clause-fails
returns-in-Err-answer_last-clause-fails g c =
    by_inventory g.D.Tape.seen g.D.Tape.may_leave g.D.Tape.unsynced g.D.Failures.failure_count c.args.hall.now.serving c.answer_last.new.hall.serving
    c.in-Err-answer_last.fault
    (fails_behind g.D.Tape.seen g.D.Tape.may_leave g.D.Tape.unsynced g.D.Failures.failure_count c.args.hall.now.serving c.loop-one.hall.serving
    c.answer_last.new.hall.serving c.in-Err-answer_last.fault c.loop-one.invariant.0 c.in-Err-answer_last.ensures.fails)

pub loop-one-preserved : goal.loop-one-preserved
loop-one-preserved g c = (
  goes_further g.D.Tape.seen g.D.Tape.may_leave g.D.Tape.unsynced g.D.Failures.failure_count c.args.hall.now.serving c.loop-one.hall.serving
      c.answer_one.new.hall.serving c.loop-one.invariant.0 c.in-Ok.ensures.goes,
  sealed_further g.K.Replaced.named g.K.Replaced.may_leave g.K.Replaced.kept_may_leave g.K.Failures.failure_count c.loop-one.hall.today
      c.answer_one.new.hall.today c.args.entry.now c.loop-one.entry c.answer_one.new.entry c.args.seals.now c.loop-one.seals
      c.answer_one.new.seals c.loop-one.invariant.1 c.in-Ok.ensures.sealed,
  taken_more c.args.closes c.args.hall.now c.loop-one.hall c.answer_one.new.hall c.args.said.now c.loop-one.one-index c.one-item.result c.loop-one.goes_on
      c.in-Ok.more
      c.both-goes_on.result c.loop-one.invariant.2 (omega (arith, c.loop-one-test.true)) c.in-Ok.ensures.one c.one-item.is c.both-goes_on.ensures,
)

pub returns-in-Ok-answer_last-clause-group : goal.returns-in-Ok-answer_last-clause-group
returns-in-Ok-answer_last-clause-group g c =
    is_group c.args.closes c.args.hall.now c.loop-one.hall c.answer_last.new.hall c.args.said.now c.loop-one.one-index c.loop-one.goes_on
    c.loop-one.invariant.2 (omega (arith, c.loop-one-test.false)) c.in-Ok-answer_last.ensures.answered

pub answer_one-requires-clause-ready : goal.answer_one-requires-clause-ready
answer_one-requires-clause-ready g c = c.loop-one.invariant.0.is_ready

pub answer_one-requires-clause-dated : goal.answer_one-requires-clause-dated
answer_one-requires-clause-dated g c = c.loop-one.invariant.1.on_day

pub answer_last-requires-clause-ready : goal.answer_last-requires-clause-ready
answer_last-requires-clause-ready g c = c.loop-one.invariant.0.is_ready

pub answer_last-requires-clause-dated : goal.answer_last-requires-clause-dated
answer_last-requires-clause-dated g c = c.loop-one.invariant.1.on_day

pub returns-in-Ok-answer_last-clause-goes : goal.returns-in-Ok-answer_last-clause-goes
returns-in-Ok-answer_last-clause-goes g c =
    goes_further g.D.Tape.seen g.D.Tape.may_leave g.D.Tape.unsynced g.D.Failures.failure_count c.args.hall.now.serving c.loop-one.hall.serving
    c.answer_last.new.hall.serving c.loop-one.invariant.0 c.in-Ok-answer_last.ensures.goes

pub returns-in-Ok-answer_last-clause-sealed : goal.returns-in-Ok-answer_last-clause-sealed
returns-in-Ok-answer_last-clause-sealed g c =
    sealed_as g.K.Replaced.named g.K.Replaced.may_leave g.K.Replaced.kept_may_leave g.K.Failures.failure_count c.loop-one.hall.today
    c.answer_last.new.hall.today c.args.entry.now c.loop-one.entry c.args.seals.now c.loop-one.seals c.answer_last.ensures.day c.loop-one.invariant.1

pub returns-in-Ok-answer_last-clause-stays : goal.returns-in-Ok-answer_last-clause-stays
returns-in-Ok-answer_last-clause-stays g c = c.loop-one.invariant.1.stays

pub returns-in-Err-answer_last-clause-stays : goal.returns-in-Err-answer_last-clause-stays
returns-in-Err-answer_last-clause-stays g c = c.loop-one.invariant.1.stays

pub returns-in-Err-answer_last-clause-unsealed : goal.returns-in-Err-answer_last-clause-unsealed
returns-in-Err-answer_last-clause-unsealed g c = counts_none g.K.Failures.failure_count c.args.seals.now c.loop-one.seals c.in-Err-answer_last.fault

pub loop-one-init : goal.loop-one-init
loop-one-init g c = (
  goes_same g.D.Tape.seen g.D.Tape.may_leave g.D.Tape.unsynced g.D.Failures.failure_count c.args.hall.now.serving c.args.hall.now.serving c.requires.ready
      refl,
  sealed_same g.K.Replaced.named g.K.Replaced.may_leave g.K.Replaced.kept_may_leave g.K.Failures.failure_count c.args.hall.now.today
      c.args.hall.now.today c.args.entry.now c.args.seals.now refl c.requires.dated,
  none_taken c.args.closes c.args.hall.now,
)
