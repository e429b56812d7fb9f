use Rattle.std.proofs.Common.{◌≡◌, drop}
use Rattle.seat_bookings.specs.Demands.{demand_from}
use Rattle.seat_bookings.proofs.demands.from_in.Given as goal

abbrev pub invariant-loop-demand : goal.invariant-loop-demand
invariant-loop-demand l = demand_from l.place l.class l.least (drop l.demand-index l.demands) ≡ demand_from l.place l.class l.least l.demands
