use Rattle.std.proofs.Common.{◌≡◌, drop}
use Rattle.seat_bookings.specs.Demands.{demand_first}
use Rattle.seat_bookings.proofs.demands.first_in.Given as goal

abbrev pub invariant-loop-demand : goal.invariant-loop-demand
invariant-loop-demand l = demand_first l.place l.class (drop l.demand-index l.demands) ≡ demand_first l.place l.class l.demands
