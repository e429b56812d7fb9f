use Rattle.std.proofs.Common.{◌≡◌, ◌≤◌, drop, length}
use Rattle.seat_bookings.specs.Demands.{smallest_of}
use Rattle.seat_bookings.proofs.demands.smallest_of.Given as goal

abbrev pub invariant-loop-at : goal.invariant-loop-at
invariant-loop-at l = record {
  within : l.at ≤ length l.queue;
  smallest_so_far : l.smallest ≡ smallest_of l.place l.class (drop l.at l.queue);
}

abbrev pub decreases-loop-at : goal.decreases-loop-at
decreases-loop-at l = l.at
