use Rattle.std.proofs.Common.{refl}
use Rattle.desk_stream.proofs.Hears.{came_by, not_strange, own_row, own_to, strange_by}
use Rattle.desk_stream.proofs.hearing.hear_line.Goals as goal

pub returns-in-Ok-come_by-clause-comes : goal.returns-in-Ok-come_by-clause-comes
returns-in-Ok-come_by-clause-comes g c =
    came_by c.args.flights.now c.args.serving.now c.args.is_own c.args.desks.now.items c.hear_at.new.desks.items c.args.pending.now c.come_by.new.pending
    c.args.session c.args.today c.args.line.now c.in-Ok.desk c.in-Ok.meant c.in-Ok.ensures.heard c.in-Ok-come_by.ensures.comes

pub returns-in-Ok-come_by-clause-waiting : goal.returns-in-Ok-come_by-clause-waiting
returns-in-Ok-come_by-clause-waiting g c = c.in-Ok-come_by.ensures.waiting

pub returns-in-Ok-come_by-clause-desks : goal.returns-in-Ok-come_by-clause-desks
returns-in-Ok-come_by-clause-desks g c = c.in-Ok.ensures.desks

pub returns-in-Err-clause-memory : goal.returns-in-Err-clause-memory
returns-in-Err-clause-memory g c =
    λ memory. own_to c.args.flights.now c.args.serving.now c.args.is_own c.args.desks.now.items c.hear_at.new.desks.items c.args.pending.now c.args.session
    c.args.today c.args.line.now c.in-Ok.desk c.in-Ok.meant c.in-Ok.ensures.heard (c.in-Err.ensures.memory memory)

pub returns-in-Err-clause-strange : goal.returns-in-Err-clause-strange
returns-in-Err-clause-strange g c =
    λ strange. strange_by c.args.flights.now c.args.serving.now c.args.is_own c.args.desks.now.items c.hear_at.new.desks.items c.args.pending.now c.args.session
    c.args.today c.args.line.now c.in-Ok.desk c.in-Ok.meant c.in-Ok.ensures.heard (c.in-Err.ensures.strange strange)

pub returns-in-Err-clause-same : goal.returns-in-Err-clause-same
returns-in-Err-clause-same g c = c.in-Err.ensures.same

pub returns-in-Err-clause-waiting : goal.returns-in-Err-clause-waiting
returns-in-Err-clause-waiting g c = c.in-Err.ensures.waiting

pub returns-in-Err-clause-desks : goal.returns-in-Err-clause-desks
returns-in-Err-clause-desks g c = c.in-Ok.ensures.desks

pub returns-in_default-clause-memory : goal.returns-in_default-clause-memory
returns-in_default-clause-memory g c =
    λ _. own_row c.args.flights.now c.args.serving.now c.args.is_own c.args.desks.now.items c.args.pending.now c.args.session c.args.today c.args.line.now
    c.in_default.ensures.manager

pub returns-in_default-clause-strange : goal.returns-in_default-clause-strange
returns-in_default-clause-strange g c = λ wrong. absurd (not_strange wrong)

pub returns-in_default-clause-same : goal.returns-in_default-clause-same
returns-in_default-clause-same g c = record { progress_is = refl; asked_is = refl; turns_are = refl }

pub returns-in_default-clause-waiting : goal.returns-in_default-clause-waiting
returns-in_default-clause-waiting g c = c.requires.waiting

pub returns-in_default-clause-desks : goal.returns-in_default-clause-desks
returns-in_default-clause-desks g c = c.in_default.ensures.desks
