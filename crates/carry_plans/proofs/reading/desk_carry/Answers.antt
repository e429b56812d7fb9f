use Rattle.carry_plans.proofs.Failing.{failed_made, failed_new, failed_old}
use Rattle.carry_plans.proofs.Makes.{has_legs}
use Rattle.carry_plans.proofs.Outcomes.{carried_onto, refused_made, refused_new, refused_old}
use Rattle.carry_plans.proofs.reading.desk_carry.Goals as goal

pub returns-in-Err-clause-fault : goal.returns-in-Err-clause-fault
returns-in-Err-clause-fault g c =
    refused_new g.I.Read.remaining g.I.Read.remaining c.args.from.now c.args.to.now (g.I.Read.remaining c.args.journal.now) c.args.beside.now
    c.args.asked.now c.of_new.result c.in-Err.fault c.of_new.ensures c.in-Err.ensures.fault c.in-Err.ensures.first_large

pub returns-in-Err-clause-device : goal.returns-in-Err-clause-device
returns-in-Err-clause-device g c =
    failed_new g.I.Read.remaining g.I.Read.remaining g.I.Failures.failure_count g.I.Failures.failure_count g.I.Failures.failure_count c.args.from.now
    c.args.from.now c.args.to.now c.load_based.new.inputs c.args.journal.now c.args.journal.now c.of_new.result c.in-Err.fault c.of_new.ensures
    c.in-Err.ensures.first_failed

pub returns-in-Err-old_read-clause-fault : goal.returns-in-Err-old_read-clause-fault
returns-in-Err-old_read-clause-fault g c =
    refused_old g.I.Read.remaining g.I.Read.remaining c.args.from.now c.args.to.now (g.I.Read.remaining c.args.journal.now) c.args.beside.now
    c.args.asked.now c.in-Ok.new.loaded.flights c.in-Ok.new.loaded.rows c.in-Ok.new.loaded.grid c.in-Ok.new.basis c.in-Err-old_read.fault
    c.in-Ok.ensures.rows c.in-Ok.ensures.basis c.in-Ok.ensures.ladders c.in-Err-old_read.ensures.fault

pub returns-in-Err-old_read-clause-device : goal.returns-in-Err-old_read-clause-device
returns-in-Err-old_read-clause-device g c =
    failed_old g.I.Read.remaining g.I.Read.remaining g.I.Failures.failure_count g.I.Failures.failure_count g.I.Failures.failure_count c.args.from.now
    c.old_read.new.from c.args.to.now c.load_based.new.inputs c.args.journal.now c.old_read.new.journal c.in-Err-old_read.fault
    c.in-Ok.new.loaded.flights c.in-Ok.new.loaded.rows (g.I.Read.remaining c.args.journal.now) c.args.beside.now c.in-Ok.ensures.rows
    c.in-Err-old_read.ensures.fault c.in-Err-old_read.ensures.device

pub returns-in-Ok-made_of-clause-ok : goal.returns-in-Ok-made_of-clause-ok
returns-in-Ok-made_of-clause-ok g c =
    carried_onto g.I.Read.remaining g.I.Read.remaining c.args.from.now c.args.to.now (g.I.Read.remaining c.args.journal.now) c.args.beside.now
    c.args.asked.now c.in-Ok.new.loaded.flights c.in-Ok.new.loaded.rows c.in-Ok.new.loaded.grid c.in-Ok.new.basis c.in-Ok-old_read.old
    c.in-Ok-made_of.carriage c.in-Ok.ensures.rows c.in-Ok.ensures.basis c.in-Ok.ensures.ladders c.in-Ok-old_read.ensures.read
    c.in-Ok-made_of.ensures.made

pub returns-clause-fault : goal.returns-clause-fault
returns-clause-fault g c =
    refused_made g.I.Read.remaining g.I.Read.remaining c.args.from.now c.args.to.now (g.I.Read.remaining c.args.journal.now) c.args.beside.now
    c.args.asked.now c.in-Ok.new.loaded.flights c.in-Ok.new.loaded.rows c.in-Ok.new.loaded.grid c.in-Ok.new.basis c.in-Ok-old_read.old
    c.in-Err-made_of.fault c.in-Ok.ensures.rows c.in-Ok.ensures.basis c.in-Ok.ensures.ladders c.in-Ok-old_read.ensures.read
    c.in-Err-made_of.ensures.fault

pub returns-clause-device : goal.returns-clause-device
returns-clause-device g c =
    failed_made g.I.Read.remaining g.I.Read.remaining g.I.Failures.failure_count g.I.Failures.failure_count g.I.Failures.failure_count c.args.from.now
    c.old_read.new.from c.args.to.now c.load_based.new.inputs c.args.journal.now c.old_read.new.journal c.args.asked.now c.in-Ok.new.loaded.flights
    c.in-Ok.new.loaded.grid c.in-Ok-old_read.old.loaded.flights c.in-Ok-old_read.old.loaded.grid c.in-Ok-old_read.old.bytes.items
    c.in-Err-made_of.fault c.in-Err-made_of.ensures.fault

pub made_of-requires-clause-file : goal.made_of-requires-clause-file
made_of-requires-clause-file g c κs within =
    has_legs c.in-Ok.new.loaded.rows c.in-Ok.new.loaded.flights c.in-Ok.new.loaded.grid c.in-Ok.ensures.ladders
