use Rattle.std.proofs.Common.{map}
use Rattle.seat_shards.proofs.Grounds.{answers_failure, answers_refusal, answers_totals, never_too_large}
use Rattle.seat_shards.proofs.auditing.totalled.Goals as goal

pub returns-clause-ok : goal.returns-clause-ok
returns-clause-ok g c =
    answers_totals g.I.Read.remaining g.I.Read.remaining c.args.inputs.now (map g.I.Read.remaining c.args.journals.now) c.in-Ok.loaded.flights c.in-Ok.loaded.rows
    c.in-Ok.loaded.grid c.totalled_over.result c.in-Ok.ensures.rows c.in-Ok.ensures.ladders c.totalled_over.ensures.ok

pub returns-clause-fault : goal.returns-clause-fault
returns-clause-fault g c =
    answers_refusal g.I.Read.remaining g.I.Read.remaining c.args.inputs.now (map g.I.Read.remaining c.args.journals.now) c.in-Ok.loaded.flights c.in-Ok.loaded.rows
    c.in-Ok.loaded.grid c.totalled_over.result c.in-Ok.ensures.rows c.in-Ok.ensures.ladders c.totalled_over.ensures.kind c.totalled_over.ensures.fault

pub returns-clause-large : goal.returns-clause-large
returns-clause-large g c = never_too_large _ c.totalled_over.result c.totalled_over.ensures.kind

pub returns-clause-device : goal.returns-clause-device
returns-clause-device g c =
    answers_failure g.I.Read.remaining g.I.Read.remaining g.I.Failures.failure_count g.I.Failures.failure_count g.I.Read.remaining g.I.Failures.failure_count
    c.args.inputs.now c.load.new.inputs c.args.journals.now c.totalled_over.new.journals c.in-Ok.loaded.flights c.in-Ok.loaded.rows c.in-Ok.loaded.grid
    c.totalled_over.result c.in-Ok.ensures.rows c.in-Ok.ensures.ladders c.totalled_over.ensures.device
