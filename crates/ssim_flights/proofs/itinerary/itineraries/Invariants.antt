use Rattle.std.proofs.Common.{take}
use Rattle.ssim_flights.proofs.Grouping.{IsGathered}
use Rattle.ssim_flights.proofs.itinerary.itineraries.Given as goal

abbrev pub invariant-loop-leg : goal.invariant-loop-leg
invariant-loop-leg l = IsGathered (take l.leg-index l.legs) l.names.keys l.all
