use Rattle.carry_plans.proofs.Failing.{failed_load}
use Rattle.carry_plans.proofs.OldReads.{refused_load}
use Rattle.carry_plans.proofs.reading.old_read.Goals as goal

pub returns-in-Err-clause-fault : goal.returns-in-Err-clause-fault
returns-in-Err-clause-fault g c =
    refused_load g.I.Read.remaining g.I.Read.remaining c.args.from.now (g.I.Read.remaining c.args.journal.now) c.args.beside.now c.of_old.result
    c.in-Err.fault c.of_old.ensures c.in-Err.ensures.fault c.in-Err.ensures.first_large

pub returns-in-Err-clause-device : goal.returns-in-Err-clause-device
returns-in-Err-clause-device g c =
    failed_load g.I.Read.remaining g.I.Read.remaining g.I.Failures.failure_count g.I.Failures.failure_count g.I.Failures.failure_count c.args.from.now
    c.load_based.new.inputs c.args.journal.now c.args.journal.now c.of_old.result c.in-Err.fault c.of_old.ensures c.in-Err.ensures.first_failed
