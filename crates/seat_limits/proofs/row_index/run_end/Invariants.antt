use Rattle.std.proofs.Common.{◌-◌, ◌<◌, ◌≤◌}
use Rattle.seat_limits.specs.Authorised.{row_pair, IsRun}
use Rattle.seat_limits.proofs.row_index.run_end.Given as goal

abbrev pub invariant-loop-end : goal.invariant-loop-end
invariant-loop-end l = record {
  run : IsRun l.rows (row_pair l.first) l.from l.end;
  further : l.from < l.end;
  inside : l.end ≤ l.count;
}

abbrev pub decreases-loop-end : goal.decreases-loop-end
decreases-loop-end l = l.count - l.end
