-- The seats are added on the legs so far.
use Rattle.std.proofs.Common.{◌≤◌}
use Rattle.seat_pickup.specs.Counting.{Adds}
use Rattle.seat_pickup.proofs.Counted.{legs_below}
use Rattle.seat_pickup.proofs.counting.add_on_legs.Given as goal

abbrev pub invariant-loop-leg : goal.invariant-loop-leg
invariant-loop-leg l = record {
  legs : Adds (legs_below l.place l.leg l.seats) l.initial.row.items l.row.items;
  within : l.leg ≤ 26;
}
