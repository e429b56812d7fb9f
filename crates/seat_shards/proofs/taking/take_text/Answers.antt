use Rattle.std.proofs.Common.{◌∙◌, List, length, subst, sym}
use Rattle.seat_journal.specs.declared.entry.Entry.{Entry}
use Rattle.taken_journals.specs.Owners.{AreWithin}
use Rattle.seat_shards.specs.declared.fault.ShardFault.{ShardFault}
use Rattle.seat_shards.specs.Faults.{IsOfJournal, IsOfJournals}
use Rattle.seat_shards.specs.Taking.{RefusesMore}
use Rattle.seat_shards.proofs.Owning.{legal_within, places_kept}
use Rattle.seat_shards.proofs.Placing.{no_device, of_journals, refused_alone, refused_beside, taken_with}
use Rattle.seat_shards.proofs.taking.take_text.Goals as goal

pub take-requires-clause-next : goal.take-requires-clause-next
take-requires-clause-next g c = c.requires.next

pub take-requires-clause-within : goal.take-requires-clause-within
take-requires-clause-within g c =
    let owners = c.args.taken.now.owners.items in
    subst (λ (es : List Entry). AreWithin (length owners) es) (sym c.as_slice.ensures)
    (legal_within c.args.grid.now (length owners) c.in-Ok-alone.text.entries c.in-Ok-alone.ensures.ok.legal c.requires.places.enough)

pub returns-in-Ok-take-clause-ok : goal.returns-in-Ok-take-clause-ok
returns-in-Ok-take-clause-ok g c =
    taken_with c.args.grid.now c.args.taken.now c.take.new.self c.args.bytes.items c.in-Ok-alone.text.entries c.as_slice.result.now c.in-Ok-alone.text.totals
    c.in-Ok-alone.ensures.ok c.as_slice.ensures c.in-Ok-take.ensures.ok

pub returns-in-Ok-take-clause-places : goal.returns-in-Ok-take-clause-places
returns-in-Ok-take-clause-places g c =
    places_kept (length c.args.grid.now) c.args.taken.now c.take.new.self c.requires.places c.in-Ok-take.ensures.ok.long

pub returns-in-Err-Shared-clause-fault : goal.returns-in-Err-Shared-clause-fault
returns-in-Err-Shared-clause-fault g c = λ of.
    refused_beside c.args.grid.now c.args.taken.now c.args.bytes.items c.args.place c.in-Err-Shared.number c.in-Err-Shared.other c.in-Ok-alone.text.entries
    c.as_slice.result.now c.in-Ok-alone.text.totals c.in-Err-Shared.field-0 c.requires.next c.in-Ok-alone.ensures.ok c.as_slice.ensures c.in-Err-Shared.field-0-is
    c.in-Err-Shared.ensures.not

pub returns-in-Err-clause-fault : goal.returns-in-Err-clause-fault
returns-in-Err-clause-fault g c =
    subst (λ (f : ShardFault). IsOfJournal f → RefusesMore c.args.grid.now c.args.taken.now f c.args.bytes.items) (sym c.of_journal.ensures)
    (refused_alone c.args.grid.now c.args.taken.now c.args.bytes.items c.args.place c.in-Err.fault c.requires.next c.in-Err.ensures.fault c.in-Err.ensures.kind.1)

pub returns-in-Err-clause-device : goal.returns-in-Err-clause-device
returns-in-Err-clause-device g c =
    λ device. no_device c.args.place c.in-Err.fault c.in-Err.ensures.kind.0 (sym c.of_journal.ensures ∙ device)

pub returns-in-Err-clause-kind : goal.returns-in-Err-clause-kind
returns-in-Err-clause-kind g c =
    subst IsOfJournals (sym c.of_journal.ensures) (of_journals c.args.place c.in-Err.fault)
