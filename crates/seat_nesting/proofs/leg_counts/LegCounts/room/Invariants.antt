use Rattle.std.proofs.Common.{◌≡◌, ◌≤◌, drop, length}
use Rattle.seat_nesting.specs.Nesting.{held_from, room_on}
use Rattle.seat_nesting.specs.Counting.{held_on}
use Rattle.seat_nesting.proofs.leg_counts.LegCounts.room.Given as goal

abbrev pub invariant-loop-rank : goal.invariant-loop-rank
invariant-loop-rank l = record {
  inside : l.rank ≤ length l.self.steps;
  carried : l.held ≡ held_from (held_on l.self) (drop l.rank l.self.steps);
  left : l.room ≡ room_on (drop l.rank l.self.steps) (held_on l.self) l.class;
}

abbrev pub decreases-loop-rank : goal.decreases-loop-rank
decreases-loop-rank l = l.rank
