use Rattle.std.proofs.Common.{ℤ, subst}
use Rattle.ssim_flights.specs.Timetables.{AreLocals}
use Rattle.ssim_flights.proofs.Clocks.{few_days}
use Rattle.ssim_flights.proofs.Timetables.{locals_of}
use Rattle.ssim_flights.proofs.schedule.Operations.locals.Goals as goal

pub returns : goal.returns
returns c =
    locals_of c.self.inside.after c.self.inside.days c.args.self.now c.locals.result c.self.view_is
    (subst (λ (z : ℤ). AreLocals z c.self.inside.days c.locals.result) (few_days c.self.inside.after c.self.invariant.0 c.self.invariant.1) c.locals.ensures)
