use Rattle.std.proofs.lemmas.Result.{err_from_is_err_and}
use Rattle.seat_replies.specs.Requests.{IsRefusedScript, IsScriptOf}
use Rattle.seat_scripts.proofs.Whole.{memory_no_input, refused_text, unread_no_input, whole_text}
use Rattle.seat_scripts.proofs.scripts.read_one.Goals as goal

pub returns-clause-ok : goal.returns-clause-ok
returns-clause-ok g c =
    whole_text (IsScriptOf c.args.today c.in_ok-read.read.requests) (g.C.Read.remaining c.args.script.now) c.in_ok-bytes.bytes.items
    c.deref.result.now c.in_ok-bytes.ensures.whole c.deref.ensures.value c.in_ok-read.ensures.ok

pub returns-clause-right : goal.returns-clause-right
returns-clause-right g c = c.in_ok-read.ensures.right

pub returns-in_err-bytes-clause-fault : goal.returns-in_err-bytes-clause-fault
returns-in_err-bytes-clause-fault g c =
    let p = err_from_is_err_and c.from_residual.result c.from_residual.ensures.1 in
    rw (p.1, p.2) (λ input. absurd (unread_no_input _ c.in_err-bytes.ensures.kind input))

pub returns-in_err-bytes-clause-script : goal.returns-in_err-bytes-clause-script
returns-in_err-bytes-clause-script g c =
    let p = err_from_is_err_and c.from_residual.result c.from_residual.ensures.1 in
    rw (p.1, p.2) (λ input. absurd (unread_no_input _ c.in_err-bytes.ensures.kind input))

pub returns-in_err-bytes-clause-large : goal.returns-in_err-bytes-clause-large
returns-in_err-bytes-clause-large g c =
    let p = err_from_is_err_and c.from_residual.result c.from_residual.ensures.1 in
    rw (p.1, p.2) (λ large. c.in_err-bytes.ensures.large large)

pub returns-in_err-bytes-clause-device : goal.returns-in_err-bytes-clause-device
returns-in_err-bytes-clause-device g c =
    let p = err_from_is_err_and c.from_residual.result c.from_residual.ensures.1 in
    rw (p.1, p.2) (λ device. c.in_err-bytes.ensures.device device)

pub returns-in_err-read-clause-fault : goal.returns-in_err-read-clause-fault
returns-in_err-read-clause-fault g c =
    let p = err_from_is_err_and c.from_residual-in_err-read.result c.from_residual-in_err-read.ensures.1 in
    rw (p.1, p.2) (λ input. refused_text (IsRefusedScript c.args.today c.args.session) (g.C.Read.remaining c.args.script.now)
    c.in_ok-bytes.bytes.items c.deref.result.now _ c.in_ok-bytes.ensures.whole c.deref.ensures.value c.in_err-read.ensures.fault input)

pub returns-in_err-read-clause-script : goal.returns-in_err-read-clause-script
returns-in_err-read-clause-script g c =
    let p = err_from_is_err_and c.from_residual-in_err-read.result c.from_residual-in_err-read.ensures.1 in
    rw (p.1, p.2) (λ input. c.in_err-read.ensures.script (λ is. memory_no_input _ is input))

pub returns-in_err-read-clause-large : goal.returns-in_err-read-clause-large
returns-in_err-read-clause-large g c =
    let p = err_from_is_err_and c.from_residual-in_err-read.result c.from_residual-in_err-read.ensures.1 in
    rw (p.1, p.2) (λ large. absurd (c.in_err-read.ensures.kind.1 large))

pub returns-in_err-read-clause-device : goal.returns-in_err-read-clause-device
returns-in_err-read-clause-device g c =
    let p = err_from_is_err_and c.from_residual-in_err-read.result c.from_residual-in_err-read.ensures.1 in
    rw (p.1, p.2) (λ device. absurd (c.in_err-read.ensures.kind.0 device))
