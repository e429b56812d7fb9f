use Rattle.std.proofs.Common.{◌≤◌, length}
use Rattle.row_stretches.specs.Painting.{Skips}
use Rattle.seat_limits.specs.RowStretches.{Knows}
use Rattle.seat_limits.proofs.RowSlots.{ShowFrom}
use Rattle.seat_limits.proofs.row_index.rows_found.Given as goal

abbrev pub invariant-loop-i : goal.invariant-loop-i
invariant-loop-i l = record {
  shown : ShowFrom l.last l.rows l.edges l.stretches.rows.items l.i;
  skips_are : Skips l.stretches.rows.items l.stretches.skips.items;
  inside : l.i ≤ length l.rows;
  knows : Knows l.last l.known;
}

abbrev pub decreases-loop-i : goal.decreases-loop-i
decreases-loop-i l = l.i
