use Rattle.std.proofs.Common.{refl}
use Rattle.desk_stream.proofs.Hears.{not_memory, not_strange, own_planned, waiting_of, waiting_still}
use Rattle.desk_stream.proofs.hearing.call.Goals as goal

pub returns-in-Ok-take_plan-clause-planned : goal.returns-in-Ok-take_plan-clause-planned
returns-in-Ok-take_plan-clause-planned g c = c.in-Ok-take_plan.ensures.planned

pub returns-in-Ok-take_plan-clause-waiting : goal.returns-in-Ok-take_plan-clause-waiting
returns-in-Ok-take_plan-clause-waiting g c =
    waiting_of c.args.flights.now c.args.serving.now c.args.pending.now c.take_plan.new.pending c.args.desk.now c.args.called.now c.requires.waiting
    c.requires.session c.journal.ensures.small c.in-Ok-take_plan.ensures.planned

pub returns-in-Err-clause-memory : goal.returns-in-Err-clause-memory
returns-in-Err-clause-memory g c =
    λ _. own_planned c.args.flights.now c.args.serving.now c.args.pending.now c.args.called.now c.args.desk.now c.in-Ok.plan c.in-Ok.ensures.plans

pub returns-in-Err-clause-strange : goal.returns-in-Err-clause-strange
returns-in-Err-clause-strange g c = λ wrong. absurd (not_strange wrong)

pub returns-in-Err-clause-same : goal.returns-in-Err-clause-same
returns-in-Err-clause-same g c = c.in-Err.ensures.same

pub returns-in-Err-clause-waiting : goal.returns-in-Err-clause-waiting
returns-in-Err-clause-waiting g c =
    waiting_still c.args.serving.now c.args.pending.now c.take_plan.new.pending c.requires.waiting
    c.in-Err.ensures.same

pub returns-in_default-clause-memory : goal.returns-in_default-clause-memory
returns-in_default-clause-memory g c = λ wrong. absurd (not_memory wrong)

pub returns-in_default-clause-strange : goal.returns-in_default-clause-strange
returns-in_default-clause-strange g c = λ _. c.in_default.ensures.strange

pub returns-in_default-clause-same : goal.returns-in_default-clause-same
returns-in_default-clause-same g c = record { progress_is = refl; asked_is = refl; turns_are = refl }

pub returns-in_default-clause-waiting : goal.returns-in_default-clause-waiting
returns-in_default-clause-waiting g c = c.requires.waiting
