use Rattle.std.proofs.Common.{subst, sym, ◌∙◌, IfSome}
use Rattle.seat_shards.specs.declared.fault.ShardFault.{ShardFault}
use Rattle.seat_shards.specs.Faults.{IsOfJournal, IsOfJournals}
use Rattle.seat_shards.specs.Taking.{IsTakenWith, IsTextOf, RefusesMore}
use Rattle.seat_shards.proofs.Placing.{failed_read, lines_of, never_failed, of_journals, refused_of, refused_unread, taken_of}
use Rattle.seat_shards.proofs.taking.take_one.Goals as goal

pub returns-in-Err-clause-fault : goal.returns-in-Err-clause-fault
returns-in-Err-clause-fault g c =
    subst (λ (f : ShardFault). IsOfJournal f → IfSome (g.J.Read.remaining c.args.journal.now) (RefusesMore c.args.grid.now c.args.taken.now f)) (sym c.of_journal.ensures)
    (refused_unread c.args.grid.now c.args.taken.now (g.J.Read.remaining c.args.journal.now) c.in-Some.place c.in-Err.fault c.in-Some.ensures.1 c.in-Err.ensures.large
    c.in-Err.ensures.kind)

pub returns-in-Err-clause-device : goal.returns-in-Err-clause-device
returns-in-Err-clause-device g c = λ device.
    failed_read _ c.in-Some.place c.in-Err.fault c.in-Err.ensures.device (sym c.of_journal.ensures ∙ device)

pub returns-in-Err-clause-kind : goal.returns-in-Err-clause-kind
returns-in-Err-clause-kind g c =
    subst IsOfJournals (sym c.of_journal.ensures) (of_journals c.in-Some.place c.in-Err.fault)

pub returns-clause-ok : goal.returns-clause-ok
returns-clause-ok g c =
    taken_of (g.J.Read.remaining c.args.journal.now) c.in-Ok.bytes.items c.in-Ok.ensures.whole c.take_text.result
    (IsTakenWith c.args.grid.now c.args.taken.now c.take_text.new.taken) c.take_text.ensures.ok

pub returns-clause-lines : goal.returns-clause-lines
returns-clause-lines g c =
    lines_of (g.J.Read.remaining c.args.journal.now) c.in-Ok.bytes.items c.in-Ok.ensures.whole c.take_text.result IsTextOf c.take_text.ensures.lines

pub returns-clause-fault : goal.returns-clause-fault
returns-clause-fault g c =
    refused_of (g.J.Read.remaining c.args.journal.now) c.in-Ok.bytes.items c.in-Ok.ensures.whole c.args.grid.now c.args.taken.now c.take_text.result c.take_text.ensures.fault

pub returns-clause-device : goal.returns-clause-device
returns-clause-device g c = never_failed _ c.take_text.result c.take_text.ensures.device
