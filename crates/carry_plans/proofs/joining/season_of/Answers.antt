use Rattle.carry_plans.proofs.Seasons.{failed_season, has_legs, season_is, unread_season}
use Rattle.carry_plans.proofs.joining.season_of.Goals as goal

pub returns-in-Ok-clause-ok : goal.returns-in-Ok-clause-ok
returns-in-Ok-clause-ok g c =
    season_is g.I.Read.remaining g.I.Read.remaining c.args.inputs.now c.in-Ok.based.loaded.flights c.in-Ok.based.loaded.rows c.in-Ok.based.loaded.grid
    c.in-Ok.based.basis c.in-Ok.ensures.rows c.in-Ok.ensures.ladders c.in-Ok.ensures.basis

pub returns-in-Ok-clause-legs : goal.returns-in-Ok-clause-legs
returns-in-Ok-clause-legs g c =
    has_legs c.in-Ok.based.loaded.rows c.in-Ok.based.loaded.flights c.in-Ok.based.loaded.grid c.in-Ok.ensures.ladders

pub returns-in-Err-clause-fault : goal.returns-in-Err-clause-fault
returns-in-Err-clause-fault g c =
    unread_season g.I.Read.remaining g.I.Read.remaining c.args.inputs.now c.args.is_new c.in-Err.fault c.in-Err.ensures.fault
    c.in-Err.ensures.first_large

pub returns-in-Err-clause-device : goal.returns-in-Err-clause-device
returns-in-Err-clause-device g c =
    failed_season g.I.Read.remaining g.I.Read.remaining c.args.inputs.now g.I.Failures.failure_count g.I.Failures.failure_count
    c.load_based.new.inputs c.args.is_new c.in-Err.fault c.in-Err.ensures.first_failed
