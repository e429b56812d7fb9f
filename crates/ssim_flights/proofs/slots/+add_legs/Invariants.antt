use Rattle.std.proofs.Common.{length}
use Rattle.ssim_flights.proofs.slots.+add_legs.Given as goal

abbrev pub decreases-add_legs : goal.decreases-add_legs
decreases-add_legs l = length l.legs.now
