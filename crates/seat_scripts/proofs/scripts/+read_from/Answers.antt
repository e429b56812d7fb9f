use Rattle.std.proofs.Common.{sym, ◌∙◌}
use Rattle.std.proofs.lemmas.Result.{err_from_is_err_and}
use Rattle.seat_scripts.proofs.ReadOn.{failed_here, failed_later, found_later, found_no_more, large_here, large_later, read_later, read_no_more, refused_here, refused_later, taken_later, taken_no_more, when_ok}
use Rattle.seat_scripts.proofs.scripts.+read_from.Goals as goal

pub returns-in_default-clause-ok : goal.returns-in_default-clause-ok
returns-in_default-clause-ok g t c = read_no_more g.C.Read.remaining c.args.today c.args.scripts.now c.args.read.now.scripts c.in_default.ensures.cases

pub returns-in_default-clause-imprints : goal.returns-in_default-clause-imprints
returns-in_default-clause-imprints g t c = taken_no_more g.C.Read.remaining c.args.scripts.now c.args.read.now.imprints c.in_default.ensures.cases

pub returns-in_default-clause-booked : goal.returns-in_default-clause-booked
returns-in_default-clause-booked g t c = found_no_more g.C.Read.remaining c.args.booked.now c.args.scripts.now c.args.read.now.is_booked c.in_default.ensures.cases

pub returns-clause-ok : goal.returns-clause-ok
returns-clause-ok g t c =
    read_later g.C.Read.remaining c.args.scripts.now c.in-Some.script.now c.in-Some.later.now c.in-Some.ensures.cases.0 c.read_from.result c.args.today c.in_ok-one.one.requests
    c.args.read.now.scripts c.add.new.self.scripts c.read_from.new.read.scripts c.in_ok-one.ensures.ok c.in_ok-one.ensures.right
    (when_ok c.add.result _ (sym c.is_err.ensures.value ∙ c.if-is_err.false) c.add.ensures.scripts) c.read_from.ensures.ok

pub returns-clause-imprints : goal.returns-clause-imprints
returns-clause-imprints g t c =
    taken_later g.C.Read.remaining c.args.scripts.now c.in-Some.script.now c.in-Some.later.now c.in-Some.ensures.cases.0 c.read_from.result c.in_ok-one.one.imprint
    c.args.read.now.imprints c.add.new.self.imprints c.read_from.new.read.imprints c.in_ok-one.ensures.imprint
    (when_ok c.add.result _ (sym c.is_err.ensures.value ∙ c.if-is_err.false) c.add.ensures.imprints) c.read_from.ensures.imprints

pub returns-clause-booked : goal.returns-clause-booked
returns-clause-booked g t c =
    found_later g.C.Read.remaining c.args.scripts.now c.in-Some.script.now c.in-Some.later.now c.in-Some.ensures.cases.0 c.read_from.result c.args.booked.now c.in_ok-one.one.is_booked
    c.args.read.now.is_booked c.add.new.self.is_booked c.read_from.new.read.is_booked c.in_ok-one.ensures.booked
    (when_ok c.add.result _ (sym c.is_err.ensures.value ∙ c.if-is_err.false) c.add.ensures.booked) c.read_from.ensures.booked

pub returns-clause-fault : goal.returns-clause-fault
returns-clause-fault g t c =
    refused_later g.C.Read.remaining c.args.scripts.now c.in-Some.script.now c.in-Some.later.now c.in-Some.ensures.cases.0 c.read_from.result c.args.today c.args.session c.in_ok-one.one.requests
    c.in_ok-one.ensures.ok c.read_from.ensures.fault

pub returns-clause-script : goal.returns-clause-script
returns-clause-script g t c = c.read_from.ensures.script

pub returns-clause-large : goal.returns-clause-large
returns-clause-large g t c =
    large_later g.C.Read.remaining c.args.scripts.now c.in-Some.script.now c.in-Some.later.now c.in-Some.ensures.cases.0 c.read_from.result c.args.today c.in_ok-one.one.requests
    c.in_ok-one.ensures.ok c.read_from.ensures.large

pub returns-clause-device : goal.returns-clause-device
returns-clause-device g t c =
    failed_later g.C.Read.remaining c.args.scripts.now c.in-Some.script.now c.in-Some.later.now c.in-Some.ensures.cases.0 c.read_from.result g.C.Failures.failure_count c.args.today c.in_ok-one.one.requests
    c.read_one.new.script c.read_from.new.scripts c.in_ok-one.ensures.ok c.read_from.ensures.device

pub returns-in_err-one-clause-fault : goal.returns-in_err-one-clause-fault
returns-in_err-one-clause-fault g t c =
    let p = err_from_is_err_and c.from_residual.result c.from_residual.ensures.1 in
    rw (p.1, p.2) (λ input. refused_here g.C.Read.remaining c.args.scripts.now c.in-Some.script.now c.in-Some.later.now c.in-Some.ensures.cases.0 c.args.today c.args.session _ (c.in_err-one.ensures.fault input))

pub returns-in_err-one-clause-large : goal.returns-in_err-one-clause-large
returns-in_err-one-clause-large g t c =
    let p = err_from_is_err_and c.from_residual.result c.from_residual.ensures.1 in
    rw (p.1, p.2) (λ large. large_here g.C.Read.remaining c.args.scripts.now c.in-Some.script.now c.in-Some.later.now c.in-Some.ensures.cases.0 c.args.today (c.in_err-one.ensures.large large))

pub returns-in_err-one-clause-device : goal.returns-in_err-one-clause-device
returns-in_err-one-clause-device g t c =
    let p = err_from_is_err_and c.from_residual.result c.from_residual.ensures.1 in
    rw (p.1, p.2) (λ device. failed_here g.C.Read.remaining c.args.scripts.now c.in-Some.script.now c.in-Some.later.now c.in-Some.ensures.cases.0 c.args.today g.C.Failures.failure_count c.read_one.new.script c.in-Some.later.now (c.in_err-one.ensures.device device))
