use Rattle.std.proofs.Common.{◌≡◌, drop}
use Rattle.ssim_flights.specs.Schedules.{falling_at}
use Rattle.ssim_flights.proofs.rows.falling_among.Given as goal

abbrev pub invariant-loop-k : goal.invariant-loop-k
invariant-loop-k l = falling_at l.legs l.rows ≡ falling_at l.legs (drop l.k l.rows)
