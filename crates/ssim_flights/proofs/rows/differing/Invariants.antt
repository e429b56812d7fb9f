use Rattle.std.proofs.Common.{◌≡◌, drop}
use Rattle.ssim_flights.specs.Schedules.{differing_from}
use Rattle.ssim_flights.proofs.rows.differing.Given as goal

abbrev pub invariant-loop-leg : goal.invariant-loop-leg
invariant-loop-leg l = differing_from l.count l.rest ≡ differing_from l.count (drop l.leg-index l.rest)
