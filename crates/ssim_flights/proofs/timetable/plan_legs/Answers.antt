use Rattle.std.proofs.Common.{arith}
use Rattle.ssim_flights.proofs.Timetables.{planned_more}
use Rattle.ssim_flights.proofs.timetable.plan_legs.Goals as goal

pub loop-leg-preserved : goal.loop-leg-preserved
loop-leg-preserved c =
    planned_more c.args.planned_legs.now.items c.loop-leg.planned_legs.items c.push.new.self.items c.args.legs.now c.loop-leg.leg-index c.leg-item.result c.planned.result (omega arith) c.leg-item.is
    c.loop-leg.invariant c.planned.ensures c.in-Ok.ensures.items
