use Rattle.std.proofs.Common.{ℕ, List, ℤ, map, ap, ◌∙◌}
use Rattle.ssim_records.specs.declared.carrier.Leg.{Leg}
use Rattle.ssim_flights.specs.Operating.{Operation, operating_days, operation}
use Rattle.ssim_flights.specs.Schedules.{days_after, scheduled}
use Rattle.ssim_flights.specs.declared.schedule.Scheduled.{Scheduled}
use Rattle.ssim_flights.proofs.Clocks.{few_days}
use Rattle.ssim_flights.proofs.schedule.schedule_leg.Goals as goal

abbrev timed : Leg → ℕ → List Operation → Scheduled
timed leg time operations = record { leg = leg; operations = operations; time = time }

pub returns : goal.returns
unfolding scheduled
returns c =
    let leg = c.args.leg.now in
    ap (timed leg c.local_time-time.result)
    (c.of-operations.ensures ∙ ap (λ (a : ℤ). map (operation a) c.of-days.result) (few_days c.days_after-after.result c.days_after-after.ensures.low c.days_after-after.ensures.high ∙ c.days_after-after.ensures.value)
    ∙ ap (map (operation (days_after c.args.plan.now.local leg))) c.of-days.ensures)
    ∙ ap (λ (time : ℕ). timed leg time (map (operation (days_after c.args.plan.now.local leg)) (operating_days leg c.args.plan.now.end))) c.local_time-time.ensures
