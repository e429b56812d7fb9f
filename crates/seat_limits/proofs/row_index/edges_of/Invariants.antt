use Rattle.seat_limits.specs.RowStretches.{Knows}
use Rattle.seat_limits.proofs.RowSlots.{EdgesUpTo}
use Rattle.seat_limits.proofs.row_index.edges_of.Given as goal

abbrev pub invariant-loop-row : goal.invariant-loop-row
invariant-loop-row l = record {
  edges_so_far : EdgesUpTo l.last l.rows l.edges.items l.row-index;
  knows : Knows l.last l.known;
}
