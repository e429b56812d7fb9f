use Rattle.carry_plans.proofs.Adding.{added_more, failed_here, failed_later, unread_here, unread_later}
use Rattle.carry_plans.proofs.journals.+read_all.Goals as goal

pub returns-in-Err-clause-fault : goal.returns-in-Err-clause-fault
returns-in-Err-clause-fault g t c =
    unread_here g.J.Read.remaining c.args.basis.now c.args.journals.now c.in-Some.journal.now c.in-Some.later.now c.args.besides.now
    c.in-Some-split_first.beside.now c.in-Some-split_first.others.now c.in-Some.ensures.cases.0 c.in-Some-split_first.ensures.cases.0
    c.args.before c.in-Err.fault c.in-Err.ensures.fault

pub returns-in-Err-clause-device : goal.returns-in-Err-clause-device
returns-in-Err-clause-device g t c = λ device.
    failed_here g.J.Read.remaining c.args.basis.now c.args.journals.now c.in-Some.journal.now c.in-Some.later.now c.args.besides.now
    c.in-Some-split_first.beside.now c.in-Some-split_first.others.now c.in-Some.ensures.cases.0 c.in-Some-split_first.ensures.cases.0
    g.J.Failures.failure_count c.read_one.new.journal c.in-Some.later.now (c.in-Err.ensures.device device)

pub returns-in-Ok-read_all-clause-ok : goal.returns-in-Ok-read_all-clause-ok
returns-in-Ok-read_all-clause-ok g t c =
    added_more g.J.Read.remaining c.args.basis.now c.args.journals.now c.in-Some.journal.now c.in-Some.later.now c.args.besides.now
    c.in-Some-split_first.beside.now c.in-Some-split_first.others.now c.in-Some.ensures.cases.0 c.in-Some-split_first.ensures.cases.0
    c.args.read.now c.read_one.new.read c.read_all.new.read c.in-Ok.ensures.ok c.in-Ok-read_all.ensures.ok

pub returns-in-Err-read_all-clause-fault : goal.returns-in-Err-read_all-clause-fault
returns-in-Err-read_all-clause-fault g t c =
    unread_later g.J.Read.remaining c.args.basis.now c.args.journals.now c.in-Some.journal.now c.in-Some.later.now c.args.besides.now
    c.in-Some-split_first.beside.now c.in-Some-split_first.others.now c.in-Some.ensures.cases.0 c.in-Some-split_first.ensures.cases.0
    c.args.before c.in-Ok.place c.in-Err-read_all.fault c.args.read.now c.read_one.new.read c.in-Ok.ensures.ok c.in-Ok.ensures.next
    c.in-Err-read_all.ensures.fault

pub returns-in-Err-read_all-clause-device : goal.returns-in-Err-read_all-clause-device
returns-in-Err-read_all-clause-device g t c = λ device.
    failed_later g.J.Read.remaining c.args.basis.now c.args.journals.now c.in-Some.journal.now c.in-Some.later.now c.args.besides.now
    c.in-Some-split_first.beside.now c.in-Some-split_first.others.now c.in-Some.ensures.cases.0 c.in-Some-split_first.ensures.cases.0
    g.J.Failures.failure_count c.read_one.new.journal c.read_all.new.journals c.args.read.now c.read_one.new.read c.in-Ok.ensures.ok
    (c.in-Err-read_all.ensures.device device)
