use Rattle.seat_desk.specs.AuditDesk.{IsAudited, IsUnlawful}
use Rattle.seat_desk.proofs.Answered.{answer_of, refused_of}
use Rattle.seat_reports.proofs.audit.audited.Goals as goal

pub returns-in-Err-line_over-clause-fault : goal.returns-in-Err-line_over-clause-fault
returns-in-Err-line_over-clause-fault g c =
    refused_of (g.I.Read.remaining c.args.inputs.now.set) (g.I.Read.remaining c.args.inputs.now.limits) (g.I.Read.remaining c.args.journal.now) c.args.inputs.now.first c.args.inputs.now.days
    c.in-Ok.based.loaded.flights c.in-Ok.based.loaded.rows c.in-Ok.based.loaded.grid c.in-Ok-read_input.bytes.items c.deref.result.now c.args.beside.now c.in-Ok.based.basis c.is_some.result
    c.in-Ok.ensures.rows c.in-Ok.ensures.basis c.is_some.ensures c.in-Ok.ensures.ladders c.in-Ok-read_input.ensures.whole c.in-Ok-read_input.ensures.within c.deref.ensures.value
    IsUnlawful c.in-Err-line_over.fault c.in_ok-agreed.ensures.ok c.in-Err-line_over.ensures.fault

pub returns-in-Ok-line_over-clause-ok : goal.returns-in-Ok-line_over-clause-ok
returns-in-Ok-line_over-clause-ok g c =
    answer_of (g.I.Read.remaining c.args.inputs.now.set) (g.I.Read.remaining c.args.inputs.now.limits) (g.I.Read.remaining c.args.journal.now) c.args.inputs.now.first c.args.inputs.now.days
    c.in-Ok.based.loaded.flights c.in-Ok.based.loaded.rows c.in-Ok.based.loaded.grid c.in-Ok-read_input.bytes.items c.deref.result.now c.args.beside.now c.in-Ok.based.basis c.is_some.result
    c.in-Ok.ensures.rows c.in-Ok.ensures.basis c.is_some.ensures c.in-Ok.ensures.ladders c.in-Ok-read_input.ensures.whole c.in-Ok-read_input.ensures.within c.deref.ensures.value
    (λ flights rows. IsAudited) c.in-Ok-line_over.line.items c.in_ok-agreed.ensures.ok c.in-Ok-line_over.ensures.ok
