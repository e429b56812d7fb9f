use Rattle.std.proofs.Common.{false, refl, inl, inr, length}
use Rattle.seat_seal.specs.Fronts.{front_of}
use Rattle.seat_seal.specs.Imprints.{imprint_of}
use Rattle.seat_desk.specs.AuditDesk.{IsUnlawful}
use Rattle.seat_desk.proofs.Answered.{refused_of}
use Rattle.seat_reports.specs.SealDesk.{nothing}
use Rattle.seat_reports.proofs.Sealings.{misnumbered_of, own_entry, sealed_of}
use Rattle.seat_reports.proofs.seal.sealed.Goals as goal

pub returns-in-Err-entry_over-clause-fault : goal.returns-in-Err-entry_over-clause-fault
returns-in-Err-entry_over-clause-fault g c = λ input. inl (
    refused_of (g.I.Read.remaining c.args.inputs.now.set) (g.I.Read.remaining c.args.inputs.now.limits) (g.I.Read.remaining c.args.journal.now) c.args.inputs.now.first c.args.inputs.now.days
    c.in-Ok.based.loaded.flights c.in-Ok.based.loaded.rows c.in-Ok.based.loaded.grid c.in-Ok-read_input.bytes.items c.in-Ok-read_input.bytes.items nothing c.in-Ok.based.basis false
    c.in-Ok.ensures.rows (λ t. c.in-Ok.ensures.basis refl) refl c.in-Ok.ensures.ladders c.in-Ok-read_input.ensures.whole c.in-Ok-read_input.ensures.within refl
    IsUnlawful c.in-Err-entry_over.fault refl c.in-Err-entry_over.ensures.fault input)

pub returns-in-Ok-text_of-clause-ok : goal.returns-in-Ok-text_of-clause-ok
returns-in-Ok-text_of-clause-ok g c =
    let based = c.in-Ok.based in
    let bytes = c.in-Ok-read_input.bytes.items in
    let entry = c.in-Ok-entry_over.entry in
    let is = c.in-Ok-entry_over.ensures.ok in
    sealed_of c.args.inputs.now.first c.args.inputs.now.days entry c.args.beside.now (g.I.Read.remaining c.args.inputs.now.set) (g.I.Read.remaining c.args.inputs.now.limits) (g.I.Read.remaining c.args.journal.now)
    (own_entry c.args.inputs.now.first c.args.inputs.now.days based.loaded.flights based.loaded.rows based.loaded.grid is.core is.runs is.era entry c.args.beside.now
    c.in-Ok.ensures.ladders (g.I.Read.remaining c.args.inputs.now.set) (g.I.Read.remaining c.args.inputs.now.limits) (g.I.Read.remaining c.args.journal.now)
    bytes bytes bytes (front_of bytes) (imprint_of (front_of bytes)) (length is.core.journal) based.basis
    c.in-Ok.ensures.rows (c.in-Ok.ensures.basis refl) c.in-Ok-read_input.ensures.whole c.in-Ok-read_input.ensures.within refl
    refl refl refl is.is_replay is.are_kept refl is.is_entry)
    c.in-Ok-text_of.text.items c.in-Ok-text_of.ensures.ok c.in-Ok-text_of.ensures.rules

pub returns-in-Err-text_of-clause-fault : goal.returns-in-Err-text_of-clause-fault
returns-in-Err-text_of-clause-fault g c = λ input. inr (
    let based = c.in-Ok.based in
    let bytes = c.in-Ok-read_input.bytes.items in
    let entry = c.in-Ok-entry_over.entry in
    let is = c.in-Ok-entry_over.ensures.ok in
    misnumbered_of c.args.inputs.now.first c.args.inputs.now.days entry c.args.beside.now (g.I.Read.remaining c.args.inputs.now.set) (g.I.Read.remaining c.args.inputs.now.limits) (g.I.Read.remaining c.args.journal.now)
    (own_entry c.args.inputs.now.first c.args.inputs.now.days based.loaded.flights based.loaded.rows based.loaded.grid is.core is.runs is.era entry c.args.beside.now
    c.in-Ok.ensures.ladders (g.I.Read.remaining c.args.inputs.now.set) (g.I.Read.remaining c.args.inputs.now.limits) (g.I.Read.remaining c.args.journal.now)
    bytes bytes bytes (front_of bytes) (imprint_of (front_of bytes)) (length is.core.journal) based.basis
    c.in-Ok.ensures.rows (c.in-Ok.ensures.basis refl) c.in-Ok-read_input.ensures.whole c.in-Ok-read_input.ensures.within refl
    refl refl refl is.is_replay is.are_kept refl is.is_entry)
    c.in-Err-text_of.fault c.in-Err-text_of.ensures.fault c.in-Err-text_of.ensures.broken)
