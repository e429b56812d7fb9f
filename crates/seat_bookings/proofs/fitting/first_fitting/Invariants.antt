use Rattle.std.proofs.Common.{◌≡◌, ◌≤◌, drop, length}
use Rattle.seat_nesting.specs.Counting.{limits_of, table_of}
use Rattle.seat_bookings.specs.Demands.{first_fitting}
use Rattle.seat_bookings.specs.Fitting.{IsMost}
use Rattle.seat_bookings.proofs.fitting.first_fitting.Given as goal

abbrev pub invariant-loop-at : goal.invariant-loop-at
invariant-loop-at l = record {
  within : l.at ≤ length l.demands;
  first_so_far : l.first ≡ first_fitting (limits_of l.counts) (table_of l.counts) (drop l.at l.demands);
  most : IsMost (limits_of l.counts) (table_of l.counts) l.most (drop l.at l.demands);
}

abbrev pub decreases-loop-at : goal.decreases-loop-at
decreases-loop-at l = l.at
