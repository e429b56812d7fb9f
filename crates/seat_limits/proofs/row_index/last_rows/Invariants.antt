use Rattle.std.proofs.Common.{◌-◌, ◌≤◌}
use Rattle.seat_limits.specs.Authorised.{HasLastRows}
use Rattle.seat_limits.proofs.row_index.last_rows.Given as goal

abbrev pub invariant-loop-i : goal.invariant-loop-i
invariant-loop-i l = record {
  last_so_far : HasLastRows l.last l.rows l.i;
  inside : l.i ≤ l.count;
}

abbrev pub decreases-loop-i : goal.decreases-loop-i
decreases-loop-i l = l.count - l.i
