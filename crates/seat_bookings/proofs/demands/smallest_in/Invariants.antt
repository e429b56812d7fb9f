use Rattle.std.proofs.Common.{◌≡◌, drop}
use Rattle.seat_bookings.specs.Demands.{demand_smallest}
use Rattle.seat_bookings.proofs.demands.smallest_in.Given as goal

abbrev pub invariant-loop-demand : goal.invariant-loop-demand
invariant-loop-demand l = demand_smallest l.place l.class (drop l.demand-index l.demands) ≡ demand_smallest l.place l.class l.demands
