use Rattle.std.proofs.Common.{All, take}
use Rattle.ssim_flights.specs.Schedules.{Repeats}
use Rattle.ssim_flights.proofs.rows.round_of.Given as goal

abbrev pub invariant-loop-leg : goal.invariant-loop-leg
invariant-loop-leg l = All (Repeats l.days.many l.days.round) (take l.leg-index l.rest)
