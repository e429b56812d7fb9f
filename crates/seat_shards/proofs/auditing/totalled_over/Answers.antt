use Rattle.std.proofs.Common.{map}
use Rattle.seat_shards.proofs.Summing.{all_totalled, one_failed, one_refused}
use Rattle.seat_shards.proofs.auditing.totalled_over.Goals as goal

pub returns-in-Ok-take_all-clause-ok : goal.returns-in-Ok-take_all-clause-ok
returns-in-Ok-take_all-clause-ok g c =
    all_totalled c.args.loaded.grid (map g.J.Read.remaining c.args.journals.now) c.in-Ok.taken c.take_all.new.taken c.in-Ok.ensures.none c.in-Ok-take_all.ensures.ok

pub returns-clause-fault : goal.returns-clause-fault
returns-clause-fault g c = λ of.
    one_refused c.args.loaded.grid (map g.J.Read.remaining c.args.journals.now) c.in-Ok.taken c.in-Err.fault c.in-Ok.ensures.none (c.in-Err.ensures.fault of)

pub returns-clause-device : goal.returns-clause-device
returns-clause-device g c = λ device.
    one_failed c.args.loaded.grid (map g.J.Read.remaining c.args.journals.now) c.in-Ok.taken g.J.Failures.failure_count c.args.journals.now c.take_all.new.journals
    c.in-Ok.ensures.none (c.in-Err.ensures.device device)
