-- The texts of the values so far are fields.
use Rattle.csv.specs.Records.{fields_of, partial_of}
use Rattle.seat_tables.proofs.Fields.{TextsSoFar}
use Rattle.seat_tables.proofs.plain_rows.row_of_cells.Given as goal

abbrev pub invariant-loop-cell : goal.invariant-loop-cell
invariant-loop-cell l = TextsSoFar l.row l.cell-index (fields_of l.fields) (partial_of l.fields)
