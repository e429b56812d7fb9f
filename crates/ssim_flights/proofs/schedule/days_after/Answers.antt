use Rattle.std.proofs.Common.{◌≡◌, Bool, false, ap, sym, ◌∙◌}
use Rattle.ssim_flights.specs.Schedules.{days_after}
use Rattle.ssim_flights.proofs.Clocks.{day_shift, minutes_fit, never}
use Rattle.ssim_flights.proofs.schedule.days_after.Goals as goal

pub returns-clause-value : goal.returns-clause-value
returns-clause-value c =
    let leg = c.args.leg.now in
    let utc : days_after c.args.local leg ≡ days_after false leg = ap (λ (b : Bool). days_after b leg) c.if-local.false in
    (day_shift leg.std leg.offset leg.shift c.from-shift.result c.from.result c.from-2.result c.div_euclid.result c.requires.std c.requires.early c.requires.late c.requires.earlier c.requires.later c.from-shift.ensures c.from.ensures c.from-2.ensures c.div_euclid.ensures).0 ∙ sym utc

pub returns-clause-low : goal.returns-clause-low
returns-clause-low c =
    let leg = c.args.leg.now in
    (day_shift leg.std leg.offset leg.shift c.from-shift.result c.from.result c.from-2.result c.div_euclid.result c.requires.std c.requires.early c.requires.late c.requires.earlier c.requires.later c.from-shift.ensures c.from.ensures c.from-2.ensures c.div_euclid.ensures).1

pub returns-clause-high : goal.returns-clause-high
returns-clause-high c =
    let leg = c.args.leg.now in
    (day_shift leg.std leg.offset leg.shift c.from-shift.result c.from.result c.from-2.result c.div_euclid.result c.requires.std c.requires.early c.requires.late c.requires.earlier c.requires.later c.from-shift.ensures c.from.ensures c.from-2.ensures c.div_euclid.ensures).2

pub overflow_add-minutes : goal.overflow_add-minutes
overflow_add-minutes c = minutes_fit c.args.leg.now.std c.args.leg.now.offset c.from.result c.from-2.result c.requires.std c.requires.early c.requires.late c.from.ensures c.from-2.ensures

pub div_euclid-requires-clause-no_overflow : goal.div_euclid-requires-clause-no_overflow
div_euclid-requires-clause-no_overflow c = λ e _. never e

pub overflow_add-result : goal.overflow_add-result
overflow_add-result c =
    let leg = c.args.leg.now in
    (day_shift leg.std leg.offset leg.shift c.from-shift.result c.from.result c.from-2.result c.div_euclid.result c.requires.std c.requires.early c.requires.late c.requires.earlier c.requires.later c.from-shift.ensures c.from.ensures c.from-2.ensures c.div_euclid.ensures).3
