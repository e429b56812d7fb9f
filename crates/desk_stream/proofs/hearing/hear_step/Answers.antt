use Rattle.std.proofs.Common.{refl, subst, sym}
use Rattle.desk_stream.specs.Hearing.{HearsBy, IsOwnStep, IsStrangeStep}
use Rattle.desk_stream.specs.Reading.{IsRightStep}
use Rattle.desk_stream.specs.declared.reading.Step.{Step}
use Rattle.desk_stream.proofs.Hears.{comes_behind, not_strange, own_behind, strange_behind}
use Rattle.desk_stream.proofs.hearing.hear_step.Goals as goal

pub hear_line-requires-clause-session : goal.hear_line-requires-clause-session
hear_line-requires-clause-session g c = ((subst (IsRightStep c.args.line.now) c.in-Line.is c.requires.right).0, c.requires.desks)

pub hear_line-requires-clause-today : goal.hear_line-requires-clause-today
hear_line-requires-clause-today g c = (subst (IsRightStep c.args.line.now) c.in-Line.is c.requires.right).2

pub returns-in-Ok-clause-hears : goal.returns-in-Ok-clause-hears
returns-in-Ok-clause-hears g c =
    subst (λ (s : Step). HearsBy s c.args.flights.now c.args.serving.now c.args.is_own c.args.desks.now.items c.args.desks.now.items c.args.pending.now c.tell.new.pending c.args.line.now)
    (sym c.in-Told.is) (c.in-Ok.ensures.told, refl)

pub returns-in-Ok-clause-waiting : goal.returns-in-Ok-clause-waiting
returns-in-Ok-clause-waiting g c = c.in-Ok.ensures.waiting

pub returns-in-Err-clause-memory : goal.returns-in-Err-clause-memory
returns-in-Err-clause-memory g c =
    λ _. subst (λ (s : Step). IsOwnStep s c.args.flights.now c.args.serving.now c.args.is_own c.args.desks.now.items c.args.pending.now c.args.line.now)
    (sym c.in-Told.is) tt

pub returns-in-Err-clause-strange : goal.returns-in-Err-clause-strange
returns-in-Err-clause-strange g c = λ wrong. absurd (not_strange wrong)

pub returns-in-Err-clause-same : goal.returns-in-Err-clause-same
returns-in-Err-clause-same g c = c.in-Err.ensures.same

pub returns-in-Err-clause-waiting : goal.returns-in-Err-clause-waiting
returns-in-Err-clause-waiting g c = c.in-Err.ensures.waiting

pub returns-in-Silent-clause-hears : goal.returns-in-Silent-clause-hears
returns-in-Silent-clause-hears g c =
    subst (λ (s : Step). HearsBy s c.args.flights.now c.args.serving.now c.args.is_own c.args.desks.now.items c.args.desks.now.items c.args.pending.now c.args.pending.now c.args.line.now)
    (sym c.in-Silent.is) (record { progress_is = refl; asked_is = refl; turns_are = refl }, refl)

pub returns-in-Ok-hear_line-clause-hears : goal.returns-in-Ok-hear_line-clause-hears
returns-in-Ok-hear_line-clause-hears g c =
    subst (λ (s : Step). HearsBy s c.args.flights.now c.args.serving.now c.args.is_own c.args.desks.now.items c.hear_line.new.desks.items c.args.pending.now c.hear_line.new.pending c.args.line.now)
    (sym c.in-Line.is) (comes_behind c.args.flights.now c.args.serving.now c.args.is_own c.args.desks.now.items c.hear_line.new.desks.items
    c.args.pending.now c.hear_line.new.pending c.in-Line.session c.in-Line.today c.args.line.now c.behind_lead-rest.result.now
    c.behind_lead-rest.ensures c.in-Ok-hear_line.ensures.comes)

pub returns-in-Ok-hear_line-clause-waiting : goal.returns-in-Ok-hear_line-clause-waiting
returns-in-Ok-hear_line-clause-waiting g c = c.in-Ok-hear_line.ensures.waiting

pub returns-in-Ok-hear_line-clause-desks : goal.returns-in-Ok-hear_line-clause-desks
returns-in-Ok-hear_line-clause-desks g c = c.in-Ok-hear_line.ensures.desks

pub returns-in-Err-hear_line-clause-memory : goal.returns-in-Err-hear_line-clause-memory
returns-in-Err-hear_line-clause-memory g c =
    λ memory. subst (λ (s : Step). IsOwnStep s c.args.flights.now c.args.serving.now c.args.is_own c.args.desks.now.items c.args.pending.now c.args.line.now)
    (sym c.in-Line.is) (own_behind c.args.flights.now c.args.serving.now c.args.is_own c.args.desks.now.items c.args.pending.now
    c.in-Line.session c.in-Line.today c.args.line.now c.behind_lead-rest.result.now c.behind_lead-rest.ensures
    (c.in-Err-hear_line.ensures.memory memory))

pub returns-in-Err-hear_line-clause-strange : goal.returns-in-Err-hear_line-clause-strange
returns-in-Err-hear_line-clause-strange g c =
    λ strange. subst (λ (s : Step). IsStrangeStep s c.args.flights.now c.args.serving.now c.args.is_own c.args.desks.now.items c.args.pending.now c.args.line.now)
    (sym c.in-Line.is) (strange_behind c.args.flights.now c.args.serving.now c.args.is_own c.args.desks.now.items c.args.pending.now
    c.in-Line.session c.in-Line.today c.args.line.now c.behind_lead-rest.result.now c.behind_lead-rest.ensures
    (c.in-Err-hear_line.ensures.strange strange))

pub returns-in-Err-hear_line-clause-same : goal.returns-in-Err-hear_line-clause-same
returns-in-Err-hear_line-clause-same g c = c.in-Err-hear_line.ensures.same

pub returns-in-Err-hear_line-clause-waiting : goal.returns-in-Err-hear_line-clause-waiting
returns-in-Err-hear_line-clause-waiting g c = c.in-Err-hear_line.ensures.waiting

pub returns-in-Err-hear_line-clause-desks : goal.returns-in-Err-hear_line-clause-desks
returns-in-Err-hear_line-clause-desks g c = c.in-Err-hear_line.ensures.desks
