use Rattle.std.proofs.lemmas.Result.{err_from_is_err_and}
use Rattle.seat_replies.specs.Changes.{AreChanges}
use Rattle.seat_seal.specs.Booked.{changes_booked}
use Rattle.seat_seal.specs.Known.{runs_known}
use Rattle.seat_scripts.proofs.Reading.{text_booked}
use Rattle.seat_scripts.proofs.Whole.{memory_no_device, memory_no_input, memory_not_large, unchanged_text, unread_no_input, whole_text}
use Rattle.seat_scripts.proofs.changes.limit_changes.Goals as goal

pub returns-clause-ok : goal.returns-clause-ok
returns-clause-ok g c =
    whole_text (AreChanges c.args.flights.now c.in_ok-made.made.items) (g.D.Read.remaining c.args.changes.now) c.in_ok-bytes.bytes.items
    c.deref.result.now c.in_ok-bytes.ensures.whole c.deref.ensures.value c.in_ok-made.ensures.ok

pub returns-clause-legs : goal.returns-clause-legs
returns-clause-legs g c = c.in_ok-made.ensures.legs

pub returns-clause-booked : goal.returns-clause-booked
returns-clause-booked g c =
    text_booked (g.D.Read.remaining c.args.changes.now) c.in_ok-booked.booked (changes_booked c.args.lines (runs_known c.args.known.now)) c.as_slice.result.now
    c.in_ok-bytes.bytes.items c.deref-2.result.now c.text_beside-imprint.result.1
    c.in_ok-bytes.ensures.whole c.deref-2.ensures.value c.in_ok-booked.ensures.ok c.as_slice.ensures c.text_beside-imprint.ensures.booked

pub returns-in_err-booked-clause-fault : goal.returns-in_err-booked-clause-fault
returns-in_err-booked-clause-fault g c =
    let p = err_from_is_err_and c.from_residual.result c.from_residual.ensures.1 in
    rw (p.1, p.2) (λ input. absurd (memory_no_input _ c.in_err-booked.ensures.memory input))

pub returns-in_err-booked-clause-changes : goal.returns-in_err-booked-clause-changes
returns-in_err-booked-clause-changes g c =
    let p = err_from_is_err_and c.from_residual.result c.from_residual.ensures.1 in
    rw (p.1, p.2) (λ input. absurd (memory_no_input _ c.in_err-booked.ensures.memory input))

pub returns-in_err-booked-clause-large : goal.returns-in_err-booked-clause-large
returns-in_err-booked-clause-large g c =
    let p = err_from_is_err_and c.from_residual.result c.from_residual.ensures.1 in
    rw (p.1, p.2) (λ large. absurd (memory_not_large _ c.in_err-booked.ensures.memory large))

pub returns-in_err-booked-clause-device : goal.returns-in_err-booked-clause-device
returns-in_err-booked-clause-device g c =
    let p = err_from_is_err_and c.from_residual.result c.from_residual.ensures.1 in
    rw (p.1, p.2) (λ device. absurd (memory_no_device _ c.in_err-booked.ensures.memory device))

pub returns-in_err-bytes-clause-fault : goal.returns-in_err-bytes-clause-fault
returns-in_err-bytes-clause-fault g c =
    let p = err_from_is_err_and c.from_residual-in_err-bytes.result c.from_residual-in_err-bytes.ensures.1 in
    rw (p.1, p.2) (λ input. absurd (unread_no_input _ c.in_err-bytes.ensures.kind input))

pub returns-in_err-bytes-clause-changes : goal.returns-in_err-bytes-clause-changes
returns-in_err-bytes-clause-changes g c =
    let p = err_from_is_err_and c.from_residual-in_err-bytes.result c.from_residual-in_err-bytes.ensures.1 in
    rw (p.1, p.2) (λ input. absurd (unread_no_input _ c.in_err-bytes.ensures.kind input))

pub returns-in_err-bytes-clause-large : goal.returns-in_err-bytes-clause-large
returns-in_err-bytes-clause-large g c =
    let p = err_from_is_err_and c.from_residual-in_err-bytes.result c.from_residual-in_err-bytes.ensures.1 in
    rw (p.1, p.2) (λ large. c.in_err-bytes.ensures.large large)

pub returns-in_err-bytes-clause-device : goal.returns-in_err-bytes-clause-device
returns-in_err-bytes-clause-device g c =
    let p = err_from_is_err_and c.from_residual-in_err-bytes.result c.from_residual-in_err-bytes.ensures.1 in
    rw (p.1, p.2) (λ device. c.in_err-bytes.ensures.device device)

pub returns-in_err-made-clause-fault : goal.returns-in_err-made-clause-fault
returns-in_err-made-clause-fault g c =
    let p = err_from_is_err_and c.from_residual-in_err-made.result c.from_residual-in_err-made.ensures.1 in
    rw (p.1, p.2) (λ input. unchanged_text c.args.flights.now (g.D.Read.remaining c.args.changes.now) c.in_ok-bytes.bytes.items
    c.deref.result.now _ c.in_ok-bytes.ensures.whole c.deref.ensures.value c.in_err-made.ensures.fault input)

pub returns-in_err-made-clause-changes : goal.returns-in_err-made-clause-changes
returns-in_err-made-clause-changes g c =
    let p = err_from_is_err_and c.from_residual-in_err-made.result c.from_residual-in_err-made.ensures.1 in
    rw (p.1, p.2) (λ input. c.in_err-made.ensures.changes (λ is. memory_no_input _ is input))

pub returns-in_err-made-clause-large : goal.returns-in_err-made-clause-large
returns-in_err-made-clause-large g c =
    let p = err_from_is_err_and c.from_residual-in_err-made.result c.from_residual-in_err-made.ensures.1 in
    rw (p.1, p.2) (λ large. absurd (c.in_err-made.ensures.kind.1 large))

pub returns-in_err-made-clause-device : goal.returns-in_err-made-clause-device
returns-in_err-made-clause-device g c =
    let p = err_from_is_err_and c.from_residual-in_err-made.result c.from_residual-in_err-made.ensures.1 in
    rw (p.1, p.2) (λ device. absurd (c.in_err-made.ensures.kind.0 device))
