use Rattle.desk_serving.proofs.Daily.{by_seal, by_inventory, counts_none, counts_seal, stays_same}
use Rattle.desk_serving.proofs.group.hear_dated.Goals as goal

pub returns-in-Err-keep_day-clause-fails : goal.returns-in-Err-keep_day-clause-fails
returns-in-Err-keep_day-clause-fails g c =
    by_seal g.D.Tape.seen g.D.Tape.may_leave g.D.Tape.unsynced g.D.Failures.failure_count c.args.hall.now.serving c.hear_one.new.hall.serving
    c.in-Err-keep_day.fault c.in-Ok.ensures.goes

pub hear_one-requires-clause-ready : goal.hear_one-requires-clause-ready
hear_one-requires-clause-ready g c = c.requires.ready

pub hear_one-requires-clause-dated : goal.hear_one-requires-clause-dated
hear_one-requires-clause-dated g c = c.requires.dated

pub returns-in-Ok-keep_day-clause-taken : goal.returns-in-Ok-keep_day-clause-taken
returns-in-Ok-keep_day-clause-taken g c = c.in-Ok.ensures.taken

pub returns-in-Ok-keep_day-clause-goes : goal.returns-in-Ok-keep_day-clause-goes
returns-in-Ok-keep_day-clause-goes g c = c.in-Ok.ensures.goes

pub returns-in-Ok-keep_day-clause-stays : goal.returns-in-Ok-keep_day-clause-stays
returns-in-Ok-keep_day-clause-stays g c = c.keep_day.ensures.stays

pub returns-in-Err-keep_day-clause-stays : goal.returns-in-Err-keep_day-clause-stays
returns-in-Err-keep_day-clause-stays g c = c.keep_day.ensures.stays

pub returns-in-Err-keep_day-clause-unsealed : goal.returns-in-Err-keep_day-clause-unsealed
returns-in-Err-keep_day-clause-unsealed g c =
    counts_seal g.K.Failures.failure_count c.args.seals.now c.keep_day.new.seals c.in-Err-keep_day.fault c.in-Err-keep_day.ensures.device

pub returns-in-Err-clause-fails : goal.returns-in-Err-clause-fails
returns-in-Err-clause-fails g c =
    by_inventory g.D.Tape.seen g.D.Tape.may_leave g.D.Tape.unsynced g.D.Failures.failure_count c.args.hall.now.serving c.hear_one.new.hall.serving
    c.in-Err.fault c.in-Err.ensures.fails

pub returns-in-Err-clause-stays : goal.returns-in-Err-clause-stays
returns-in-Err-clause-stays g c =
    stays_same g.K.Replaced.named g.K.Replaced.may_leave g.K.Replaced.kept_may_leave g.K.Failures.failure_count c.args.entry.now c.args.seals.now

pub returns-in-Err-clause-unsealed : goal.returns-in-Err-clause-unsealed
returns-in-Err-clause-unsealed g c = counts_none g.K.Failures.failure_count c.args.seals.now c.args.seals.now c.in-Err.fault
