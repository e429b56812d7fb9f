use Rattle.std.proofs.Common.{refl}
use Rattle.std.proofs.lemmas.Result.{err_from_is_err_and}
use Rattle.seat_scripts.specs.Against.{IsReplayWithin}
use Rattle.seat_scripts.proofs.Seals.{read_faultless, read_last, read_unsealed}
use Rattle.seat_scripts.proofs.Whole.{unread_no_input, whole_text}
use Rattle.seat_scripts.proofs.past.replayed_beside.Goals as goal

pub returns-in-Ok-clause-ok : goal.returns-in-Ok-clause-ok
returns-in-Ok-clause-ok g c =
    whole_text (IsReplayWithin c.args.grid c.in-Ok.past) (g.J.Read.remaining c.args.journal.now) c.in_ok-bytes.bytes.items
    c.in_ok-bytes.bytes.items c.in_ok-bytes.ensures.whole refl (record { within = c.in_ok-bytes.ensures.within; is_replay = c.in-Ok.ensures.ok })

pub returns-in-Ok-clause-sealed : goal.returns-in-Ok-clause-sealed
returns-in-Ok-clause-sealed g c =
    read_faultless c.args.beside.now c.args.basis.now (g.J.Read.remaining c.args.journal.now) c.in_ok-bytes.bytes.items
    c.deref.result.now c.deref.ensures.value c.in_ok-bytes.ensures.whole c.in_default.ensures.ok

pub returns-in-Ok-clause-last : goal.returns-in-Ok-clause-last
returns-in-Ok-clause-last g c =
    read_last c.args.beside.now (g.J.Read.remaining c.args.journal.now) c.in_ok-bytes.bytes.items c.deref-2.result.now
    c.known_of-last.result c.deref-2.ensures.value c.in_ok-bytes.ensures.whole c.known_of-last.ensures

pub returns-in-Err-clause-fault : goal.returns-in-Err-clause-fault
returns-in-Err-clause-fault g c = λ input.
    read_unsealed c.args.beside.now c.args.basis.now (g.J.Read.remaining c.args.journal.now) c.in_ok-bytes.bytes.items
    c.deref.result.now c.deref.ensures.value c.in_ok-bytes.ensures.whole c.args.grid c.in-Err.fault c.in_ok-bytes.ensures.within
    c.in-Err.ensures.fault

pub returns-in_err-bytes-clause-fault : goal.returns-in_err-bytes-clause-fault
returns-in_err-bytes-clause-fault g c =
    let p = err_from_is_err_and c.from_residual.result c.from_residual.ensures.1 in
    rw (p.1, p.2) (λ input. absurd (unread_no_input _ c.in_err-bytes.ensures.kind input))

pub returns-in_err-bytes-clause-large : goal.returns-in_err-bytes-clause-large
returns-in_err-bytes-clause-large g c =
    let p = err_from_is_err_and c.from_residual.result c.from_residual.ensures.1 in
    rw (p.1, p.2) (λ large. c.in_err-bytes.ensures.large large)

pub returns-in_err-bytes-clause-device : goal.returns-in_err-bytes-clause-device
returns-in_err-bytes-clause-device g c =
    let p = err_from_is_err_and c.from_residual.result c.from_residual.ensures.1 in
    rw (p.1, p.2) (λ device. c.in_err-bytes.ensures.device device)
