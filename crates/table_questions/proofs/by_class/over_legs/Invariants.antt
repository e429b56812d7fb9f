-- The flights so far are counted.
use Rattle.std.proofs.Common.{◌≡◌, ◌≤◌, ◌+◌, ◌*◌, drop}
use Rattle.seat_rules.specs.Inventory.{state_now}
use Rattle.seat_loads.specs.Sums.{on_flight, over_legs, sum_from}
use Rattle.table_questions.specs.SumRows.{class_count}
use Rattle.table_questions.proofs.by_class.over_legs.Given as goal

abbrev pub invariant-loop-index : goal.invariant-loop-index
invariant-loop-index l = record {
  value : l.total + sum_from (on_flight l.asked (class_count l.count (state_now l.core) l.class)) l.index (drop l.index l.flights)
      ≡ over_legs l.asked (class_count l.count (state_now l.core) l.class) l.flights;
  few : l.total ≤ l.index * 524279475720;
}
