use Rattle.std.proofs.Common.{◌≡◌, ◌≤◌, drop}
use Rattle.ssim_flights.specs.Schedules.{shortest}
use Rattle.ssim_flights.proofs.schedule.shortest.Given as goal

abbrev pub invariant-loop-leg : goal.invariant-loop-leg
invariant-loop-leg l = (shortest l.n l.legs ≡ shortest l.least (drop l.leg-index l.legs)) × (l.least ≤ l.n)
