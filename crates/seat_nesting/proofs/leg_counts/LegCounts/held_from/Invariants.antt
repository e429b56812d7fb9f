use Rattle.std.proofs.Common.{◌≡◌, ◌≤◌, drop, length}
use Rattle.seat_nesting.specs.Nesting.{held_from}
use Rattle.seat_nesting.specs.Counting.{held_on}
use Rattle.seat_nesting.proofs.leg_counts.LegCounts.held_from.Given as goal

abbrev pub invariant-loop-at : goal.invariant-loop-at
invariant-loop-at l = record {
  above : l.rank ≤ l.at;
  inside : l.at ≤ length l.self.steps;
  carried : l.held ≡ held_from (held_on l.self) (drop l.at l.self.steps);
}

abbrev pub decreases-loop-at : goal.decreases-loop-at
decreases-loop-at l = l.at
