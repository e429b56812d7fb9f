-- None of the legs so far is kept and the booking's.
use Rattle.std.proofs.Common.{◌≡◌, drop}
use Rattle.seat_loads.specs.Sums.{is_on}
use Rattle.seat_loads.proofs.passengers.is_on.Given as goal

abbrev pub invariant-loop-j : goal.invariant-loop-j
invariant-loop-j l = is_on l.asked l.booking l.j (drop l.j l.legs) ≡ is_on l.asked l.booking 0 l.legs
