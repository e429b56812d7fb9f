use Rattle.std.proofs.Common.{◌≡◌, drop}
use Rattle.ssim_flights.specs.Schedules.{falling_after}
use Rattle.ssim_flights.proofs.rows.falling_on.Given as goal

abbrev pub invariant-loop-leg : goal.invariant-loop-leg
invariant-loop-leg l = falling_after l.i 0 l.legs ≡ falling_after l.i l.before (drop l.leg-index l.legs)
