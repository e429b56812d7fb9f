use Rattle.std.proofs.Common.{map}
use Rattle.carry_plans.proofs.JoinFailing.{failed_journal, failed_made, failed_new, failed_old}
use Rattle.carry_plans.proofs.Onto.{carried_onto, unmade_onto, unread_journal, unread_new, unread_old}
use Rattle.carry_plans.proofs.joining.desk_carry_joined.Goals as goal

pub returns-in-Err-clause-fault : goal.returns-in-Err-clause-fault
returns-in-Err-clause-fault g c =
    unread_new g.I.Read.remaining g.I.Read.remaining c.args.from.now c.args.to.now (map g.I.Read.remaining c.args.journals.now) c.args.besides.now
    c.args.asked.now c.in-Err.fault c.in-Err.ensures.fault

pub returns-in-Err-clause-device : goal.returns-in-Err-clause-device
returns-in-Err-clause-device g c =
    failed_new g.I.Read.remaining g.I.Read.remaining g.I.Failures.failure_count g.I.Failures.failure_count g.I.Failures.failure_count c.args.from.now
    c.args.from.now c.args.to.now c.season_of.new.inputs c.args.besides.now (map g.I.Read.remaining c.args.journals.now) c.args.journals.now
    c.args.journals.now c.in-Err.fault c.in-Err.ensures.device

pub returns-in-Err-season_of-clause-fault : goal.returns-in-Err-season_of-clause-fault
returns-in-Err-season_of-clause-fault g c =
    unread_old g.I.Read.remaining g.I.Read.remaining c.args.from.now c.args.to.now (map g.I.Read.remaining c.args.journals.now) c.args.besides.now
    c.args.asked.now c.in-Ok.new.loaded.flights c.in-Ok.new.loaded.grid c.in-Ok.new.basis c.in-Ok.ensures.ok c.in-Err-season_of.fault
    c.in-Err-season_of.ensures.fault

pub returns-in-Err-season_of-clause-device : goal.returns-in-Err-season_of-clause-device
returns-in-Err-season_of-clause-device g c =
    failed_old g.I.Read.remaining g.I.Read.remaining g.I.Failures.failure_count g.I.Failures.failure_count g.I.Failures.failure_count c.args.from.now
    c.season_of-2.new.inputs c.args.to.now c.season_of.new.inputs c.args.besides.now (map g.I.Read.remaining c.args.journals.now) c.args.journals.now
    c.args.journals.now c.in-Ok.new.loaded.flights c.in-Ok.new.loaded.grid c.in-Ok.new.basis c.in-Ok.ensures.ok c.in-Err-season_of.fault
    c.in-Err-season_of.ensures.device

pub returns-in-Err-read_together-clause-fault : goal.returns-in-Err-read_together-clause-fault
returns-in-Err-read_together-clause-fault g c =
    unread_journal g.I.Read.remaining g.I.Read.remaining c.args.from.now c.args.to.now (map g.I.Read.remaining c.args.journals.now) c.args.besides.now
    c.args.asked.now c.in-Ok.new.loaded.flights c.in-Ok.new.loaded.grid c.in-Ok.new.basis c.in-Ok.ensures.ok c.in-Ok-season_of.old.loaded.flights
    c.in-Ok-season_of.old.loaded.grid c.in-Ok-season_of.old.basis c.in-Ok-season_of.ensures.ok c.in-Err-read_together.fault
    c.in-Err-read_together.ensures.fault c.in-Err-read_together.ensures.kind

pub returns-in-Err-read_together-clause-device : goal.returns-in-Err-read_together-clause-device
returns-in-Err-read_together-clause-device g c =
    failed_journal g.I.Read.remaining g.I.Read.remaining g.I.Failures.failure_count g.I.Failures.failure_count g.I.Failures.failure_count
    c.args.from.now c.season_of-2.new.inputs c.args.to.now c.season_of.new.inputs c.args.besides.now (map g.I.Read.remaining c.args.journals.now)
    c.args.journals.now c.read_together.new.journals c.in-Ok.new.loaded.flights c.in-Ok.new.loaded.grid c.in-Ok.new.basis c.in-Ok.ensures.ok
    c.in-Ok-season_of.old.loaded.flights c.in-Ok-season_of.old.loaded.grid c.in-Ok-season_of.old.basis c.in-Err-read_together.fault
    c.in-Ok-season_of.ensures.ok c.in-Err-read_together.ensures.kind c.in-Err-read_together.ensures.device

pub returns-in-Ok-joined_of-clause-ok : goal.returns-in-Ok-joined_of-clause-ok
returns-in-Ok-joined_of-clause-ok g c =
    carried_onto g.I.Read.remaining g.I.Read.remaining c.args.from.now c.args.to.now (map g.I.Read.remaining c.args.journals.now) c.args.besides.now
    c.args.asked.now c.in-Ok.new.loaded.flights c.in-Ok.new.loaded.grid c.in-Ok.new.basis c.in-Ok.ensures.ok c.in-Ok-season_of.old.loaded.flights
    c.in-Ok-season_of.old.loaded.grid c.in-Ok-season_of.old.basis c.in-Ok-season_of.ensures.ok c.in-Ok-read_together.read
    c.in-Ok-read_together.ensures.ok c.in-Ok-joined_of.joined c.in-Ok-joined_of.ensures.made

pub returns-clause-fault : goal.returns-clause-fault
returns-clause-fault g c =
    unmade_onto g.I.Read.remaining g.I.Read.remaining c.args.from.now c.args.to.now (map g.I.Read.remaining c.args.journals.now) c.args.besides.now
    c.args.asked.now c.in-Ok.new.loaded.flights c.in-Ok.new.loaded.grid c.in-Ok.new.basis c.in-Ok.ensures.ok c.in-Ok-season_of.old.loaded.flights
    c.in-Ok-season_of.old.loaded.grid c.in-Ok-season_of.old.basis c.in-Ok-season_of.ensures.ok c.in-Ok-read_together.read
    c.in-Ok-read_together.ensures.ok c.in-Err-joined_of.fault c.in-Err-joined_of.ensures.fault

pub returns-clause-device : goal.returns-clause-device
returns-clause-device g c =
    failed_made g.I.Read.remaining g.I.Read.remaining g.I.Failures.failure_count g.I.Failures.failure_count g.I.Failures.failure_count c.args.from.now
    c.season_of-2.new.inputs c.args.to.now c.season_of.new.inputs c.args.besides.now (map g.I.Read.remaining c.args.journals.now) c.args.journals.now
    c.read_together.new.journals c.args.asked.now c.in-Ok.new.loaded.flights c.in-Ok.new.loaded.grid c.in-Ok-season_of.old.loaded.flights
    c.in-Ok-season_of.old.loaded.grid c.in-Ok-read_together.read.texts c.in-Err-joined_of.fault c.in-Err-joined_of.ensures.fault
