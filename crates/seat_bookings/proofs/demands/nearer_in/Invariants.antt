use Rattle.std.proofs.Common.{◌≡◌, drop}
use Rattle.seat_bookings.specs.Demands.{demand_nearer}
use Rattle.seat_bookings.proofs.demands.nearer_in.Given as goal

abbrev pub invariant-loop-demand : goal.invariant-loop-demand
invariant-loop-demand l = demand_nearer l.place l.class l.number l.seats (drop l.demand-index l.demands) ≡ demand_nearer l.place l.class l.number l.seats l.demands
