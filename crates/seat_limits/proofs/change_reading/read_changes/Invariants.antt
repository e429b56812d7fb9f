use Rattle.std.proofs.Common.{◌+◌, ◌≤◌, length}
use Rattle.seat_limits.proofs.RowTexts.{IsAt}
use Rattle.seat_limits.specs.ChangeRows.{change_at}
use Rattle.seat_limits.proofs.change_reading.read_changes.Given as goal

abbrev pub invariant-loop-rest : goal.invariant-loop-rest
invariant-loop-rest l = record {
  at : IsAt change_at l.bytes l.line l.rest l.rows;
  counted : l.line + length l.rest ≤ length l.bytes;
}

abbrev pub decreases-loop-rest : goal.decreases-loop-rest
decreases-loop-rest l = length l.rest
