-- The legs so far are counted.
use Rattle.seat_rules.specs.Inventory.{state_now}
use Rattle.seat_loads.proofs.Adding.{LegsSoFar}
use Rattle.seat_loads.proofs.sums.flight_legs.Given as goal

abbrev pub invariant-loop-j : goal.invariant-loop-j
invariant-loop-j l = LegsSoFar l.asked (state_now l.core) l.index l.legs l.j l.sums
