-- The flights so far are counted.
use Rattle.seat_rules.specs.Inventory.{state_now}
use Rattle.seat_loads.proofs.Riding.{RidersSoFar}
use Rattle.seat_loads.proofs.passengers.riders_of.Given as goal

abbrev pub invariant-loop-index : goal.invariant-loop-index
invariant-loop-index l = RidersSoFar l.asked (state_now l.core) l.flights l.index l.riders
