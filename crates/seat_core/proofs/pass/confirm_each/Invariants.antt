use Rattle.std.proofs.Common.{◌≡◌, ◌++◌, ◌-◌, ◌≤◌, drop, length}
use Rattle.seat_nesting.specs.Counting.{limits_of, table_of}
use Rattle.seat_rules.specs.Showing.{taken_back}
use Rattle.seat_rules.specs.Tables.{advices_by}
use Rattle.seat_core.proofs.pass.confirm_each.Given as goal

abbrev pub invariant-loop-at : goal.invariant-loop-at
invariant-loop-at l = record {
  limits : limits_of l.counts ≡ limits_of l.fn.counts;
  within : l.at ≤ length l.queue.bookings;
  told : l.advices.items ++ advices_by (limits_of l.fn.counts) (table_of l.counts) (drop l.at l.queue.bookings)
      ≡ advices_by (limits_of l.fn.counts) (table_of l.fn.counts) l.queue.bookings;
  back : taken_back (limits_of l.fn.counts) (table_of l.counts) l.advices.items ≡ table_of l.fn.counts;
}

abbrev pub decreases-loop-at : goal.decreases-loop-at
decreases-loop-at l = length l.queue.bookings - l.at
