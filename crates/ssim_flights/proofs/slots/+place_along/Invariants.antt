use Rattle.ssim_flights.proofs.slots.+place_along.Given as goal

abbrev pub decreases-place_along : goal.decreases-place_along
decreases-place_along l = l.entry
