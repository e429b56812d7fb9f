use Rattle.std.proofs.Common.{length}
use Rattle.ssim_flights.proofs.on_flight.+place_from.Given as goal

abbrev pub decreases-place_from : goal.decreases-place_from
decreases-place_from l = length l.legs.now
