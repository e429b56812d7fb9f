use Rattle.std.proofs.Common.{length}
use Rattle.flight_days.proofs.day_flights.+add_legs.Given as goal

abbrev pub decreases-add_legs : goal.decreases-add_legs
decreases-add_legs l = length l.legs.now
