-- The legs so far are counted.
use Rattle.std.proofs.Common.{◌≡◌, ◌≤◌, ◌+◌, ◌*◌, drop}
use Rattle.seat_rules.specs.Inventory.{state_now}
use Rattle.seat_loads.specs.Sums.{on_leg, sum_from}
use Rattle.table_questions.specs.SumRows.{class_count}
use Rattle.table_questions.proofs.by_class.legs_count.Given as goal

abbrev pub invariant-loop-j : goal.invariant-loop-j
invariant-loop-j l = record {
  value : l.total + sum_from (on_leg l.asked (class_count l.count (state_now l.core) l.class) l.index) l.j (drop l.j l.legs)
      ≡ sum_from (on_leg l.asked (class_count l.count (state_now l.core) l.class) l.index) 0 l.legs;
  few : l.total ≤ l.j * 65534934465;
}
