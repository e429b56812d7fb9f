use Rattle.std.proofs.Common.{◌≡◌, ◌≤◌, drop, length}
use Rattle.seat_nesting.specs.Counting.{limits_of, table_of}
use Rattle.seat_rules.specs.Showing.{taken_back}
use Rattle.seat_core.proofs.pass.take_back_each.Given as goal

abbrev pub invariant-loop-at : goal.invariant-loop-at
invariant-loop-at l = record {
  within : l.at ≤ length l.advices;
  limits : limits_of l.counts ≡ limits_of l.fn.counts;
  seats : table_of l.counts ≡ taken_back (limits_of l.fn.counts) (table_of l.fn.counts) (drop l.at l.advices);
}

abbrev pub decreases-loop-at : goal.decreases-loop-at
decreases-loop-at l = l.at
