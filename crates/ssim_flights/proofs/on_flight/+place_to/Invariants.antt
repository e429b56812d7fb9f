use Rattle.std.proofs.Common.{length}
use Rattle.ssim_flights.proofs.on_flight.+place_to.Given as goal

abbrev pub decreases-place_to : goal.decreases-place_to
decreases-place_to l = length l.legs.now
