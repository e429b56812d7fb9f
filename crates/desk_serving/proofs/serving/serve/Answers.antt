use Rattle.std.proofs.Common.{rules, refl}
use Rattle.desk_serving.proofs.Daily.{counts_behind, fails_by_behind, sealed_further, stays_behind, by_inventory, counts_none, sealed_same, stays_same}
use Rattle.desk_serving.proofs.Goes.{goes_further, fails_same, goes_same}
use Rattle.desk_serving.proofs.Groups.{group_more, is_served, no_groups}
use Rattle.seat_serving.specs.declared.serving.ServeFault.TheVariants.{Memory as NoMemory}
use Rattle.desk_serving.proofs.serving.serve.Goals as goal

pub returns-in-Err-clause-fails : goal.returns-in-Err-clause-fails
returns-in-Err-clause-fails g c =
    fails_by_behind g.D.Tape.seen g.D.Tape.may_leave g.D.Tape.unsynced g.D.Failures.failure_count c.args.hall.now.serving c.loop.hall.serving
    c.answer_counted.new.hall.serving c.in-Err.fault c.loop.invariant.0 c.in-Err.ensures.fails

pub returns-in-Err-clause-stays : goal.returns-in-Err-clause-stays
returns-in-Err-clause-stays g c =
    stays_behind g.K.Replaced.named g.K.Replaced.may_leave g.K.Replaced.kept_may_leave g.K.Failures.failure_count c.loop.hall.today
    c.args.entry.now c.loop.entry c.args.seals.now c.loop.seals c.answer_counted.new.seals c.loop.invariant.1 c.answer_counted.ensures.stays

pub returns-in-Err-clause-unsealed : goal.returns-in-Err-clause-unsealed
returns-in-Err-clause-unsealed g c =
    counts_behind g.K.Replaced.named g.K.Replaced.may_leave g.K.Replaced.kept_may_leave g.K.Failures.failure_count c.loop.hall.today
    c.args.entry.now c.loop.entry c.args.seals.now c.loop.seals c.answer_counted.new.seals c.in-Err.fault c.loop.invariant.1
    c.in-Err.ensures.unsealed

pub loop-preserved : goal.loop-preserved
loop-preserved g c = (
  goes_further g.D.Tape.seen g.D.Tape.may_leave g.D.Tape.unsynced g.D.Failures.failure_count c.args.hall.now.serving c.loop.hall.serving
      c.answer_counted.new.hall.serving c.loop.invariant.0 c.in-Ok-true.ensures.goes,
  sealed_further g.K.Replaced.named g.K.Replaced.may_leave g.K.Replaced.kept_may_leave g.K.Failures.failure_count c.loop.hall.today
      c.answer_counted.new.hall.today c.args.entry.now c.loop.entry c.answer_counted.new.entry c.args.seals.now c.loop.seals
      c.answer_counted.new.seals c.loop.invariant.1 c.in-Ok-true.ensures.sealed,
  c.in-Ok-true.ensures.counts,
  group_more c.args.closes c.args.hall.now c.loop.hall c.answer_counted.new.hall _ _ c.loop.invariant.3 c.in-Ok-true.ensures.group (search rules),
)

pub returns-in-Ok-false-clause-served : goal.returns-in-Ok-false-clause-served
returns-in-Ok-false-clause-served g c =
    is_served c.args.closes c.args.hall.now c.loop.hall c.answer_counted.new.hall _ _ c.loop.invariant.3 c.in-Ok-false.ensures.group (search rules)

pub answer_counted-requires-clause-ready : goal.answer_counted-requires-clause-ready
answer_counted-requires-clause-ready g c = c.loop.invariant.0.is_ready

pub answer_counted-requires-clause-dated : goal.answer_counted-requires-clause-dated
answer_counted-requires-clause-dated g c = c.loop.invariant.1.on_day

pub answer_counted-requires-clause-counts : goal.answer_counted-requires-clause-counts
answer_counted-requires-clause-counts g c = c.loop.invariant.2

pub returns-in-Ok-false-clause-goes : goal.returns-in-Ok-false-clause-goes
returns-in-Ok-false-clause-goes g c =
    goes_further g.D.Tape.seen g.D.Tape.may_leave g.D.Tape.unsynced g.D.Failures.failure_count c.args.hall.now.serving c.loop.hall.serving
    c.answer_counted.new.hall.serving c.loop.invariant.0 c.in-Ok-false.ensures.goes

pub returns-in-Ok-false-clause-sealed : goal.returns-in-Ok-false-clause-sealed
returns-in-Ok-false-clause-sealed g c =
    sealed_further g.K.Replaced.named g.K.Replaced.may_leave g.K.Replaced.kept_may_leave g.K.Failures.failure_count c.loop.hall.today
    c.answer_counted.new.hall.today c.args.entry.now c.loop.entry c.answer_counted.new.entry c.args.seals.now c.loop.seals c.answer_counted.new.seals
    c.loop.invariant.1 c.in-Ok-false.ensures.sealed

pub returns-in-Ok-false-clause-stays : goal.returns-in-Ok-false-clause-stays
returns-in-Ok-false-clause-stays g c =
    stays_behind g.K.Replaced.named g.K.Replaced.may_leave g.K.Replaced.kept_may_leave g.K.Failures.failure_count c.loop.hall.today c.args.entry.now
    c.loop.entry c.args.seals.now c.loop.seals c.answer_counted.new.seals c.loop.invariant.1 c.answer_counted.ensures.stays

pub loop-init : goal.loop-init
loop-init g c = (
  goes_same g.D.Tape.seen g.D.Tape.may_leave g.D.Tape.unsynced g.D.Failures.failure_count c.args.hall.now.serving c.args.hall.now.serving c.requires.ready
      refl,
  sealed_same g.K.Replaced.named g.K.Replaced.may_leave g.K.Replaced.kept_may_leave g.K.Failures.failure_count c.args.hall.now.today
      c.args.hall.now.today c.args.entry.now c.args.seals.now refl c.requires.dated,
  c.begun-tally.ensures,
  no_groups c.args.closes c.args.hall.now,
)

pub returns-in_default-clause-fails : goal.returns-in_default-clause-fails
returns-in_default-clause-fails g c =
    by_inventory g.D.Tape.seen g.D.Tape.may_leave g.D.Tape.unsynced g.D.Failures.failure_count c.args.hall.now.serving c.args.hall.now.serving NoMemory
    (fails_same g.D.Tape.seen g.D.Tape.may_leave g.D.Tape.unsynced g.D.Failures.failure_count c.args.hall.now.serving c.args.hall.now.serving c.requires.ready
    refl)

pub returns-in_default-clause-stays : goal.returns-in_default-clause-stays
returns-in_default-clause-stays g c =
    stays_same g.K.Replaced.named g.K.Replaced.may_leave g.K.Replaced.kept_may_leave g.K.Failures.failure_count c.args.entry.now c.args.seals.now

pub returns-in_default-clause-unsealed : goal.returns-in_default-clause-unsealed
returns-in_default-clause-unsealed g c = counts_none g.K.Failures.failure_count c.args.seals.now c.args.seals.now NoMemory
