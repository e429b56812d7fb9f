use Rattle.std.proofs.Common.{◌≡◌, take, map}
use Rattle.ssim_flights.specs.Schedules.{scheduled}
use Rattle.ssim_flights.proofs.schedule.schedule.Given as goal

abbrev pub invariant-loop-leg : goal.invariant-loop-leg
invariant-loop-leg l = l.list.items ≡ map (scheduled l.plan) (take l.leg-index l.legs)
