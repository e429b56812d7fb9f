-- The rows of the classes so far are written.
use Rattle.std.proofs.Common.{◌≤◌}
use Rattle.seat_rules.specs.Inventory.{state_now}
use Rattle.seat_tables.specs.Sheets.{ArePut}
use Rattle.table_questions.specs.SumRows.{class_names, rows_of_each, sums_of_class}
use Rattle.table_questions.proofs.by_class.ClassSumsTable.put_rows.Given as goal

abbrev pub invariant-loop-i : goal.invariant-loop-i
invariant-loop-i l = record {
  rows : ArePut class_names (rows_of_each (sums_of_class l.self.loads (state_now l.core) l.flights) l.i 65) l.initial.sheet l.sheet;
  within : l.i ≤ 26;
}
