use Rattle.std.proofs.Common.{map}
use Rattle.seat_shards.proofs.Grounds.{says_totals}
use Rattle.seat_shards.proofs.auditing.audited.Goals as goal

pub returns-in-Ok-audit_line-clause-ok : goal.returns-in-Ok-audit_line-clause-ok
returns-in-Ok-audit_line-clause-ok g c =
    says_totals g.I.Read.remaining g.I.Read.remaining c.args.inputs.now (map g.I.Read.remaining c.args.journals.now) c.in-Ok.totals c.in-Ok-audit_line.line.items
    c.in-Ok.ensures.ok c.in-Ok-audit_line.ensures

pub returns-in-Err-clause-fault : goal.returns-in-Err-clause-fault
returns-in-Err-clause-fault g c = c.in-Err.ensures.fault

pub returns-in-Err-clause-large : goal.returns-in-Err-clause-large
returns-in-Err-clause-large g c = c.in-Err.ensures.large

pub returns-in-Err-clause-device : goal.returns-in-Err-clause-device
returns-in-Err-clause-device g c = c.in-Err.ensures.device
