-- The rows of the classes so far are written.
use Rattle.std.proofs.Common.{◌≤◌}
use Rattle.seat_tables.specs.Sheets.{ArePut}
use Rattle.table_questions.specs.SumRows.{rows_of_each}
use Rattle.pickup_questions.specs.GroupRows.{class_names, rows_of_class}
use Rattle.pickup_questions.proofs.by_class.put_classes.Given as goal

abbrev pub invariant-loop-i : goal.invariant-loop-i
invariant-loop-i l = record {
  rows : ArePut class_names (rows_of_each (rows_of_class l.moved.all.now) l.i 65) l.initial.sheet l.sheet;
  within : l.i ≤ 26;
}
