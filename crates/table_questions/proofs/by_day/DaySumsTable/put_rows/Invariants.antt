-- The rows of the days so far are written.
use Rattle.std.proofs.Common.{◌≤◌}
use Rattle.seat_rules.specs.Inventory.{state_now}
use Rattle.seat_tables.specs.Sheets.{ArePut}
use Rattle.table_questions.specs.SumRows.{day_names, rows_of_each, sums_of_day}
use Rattle.table_questions.proofs.by_day.DaySumsTable.put_rows.Given as goal

abbrev pub invariant-loop-i : goal.invariant-loop-i
invariant-loop-i l = record {
  rows : ArePut day_names (rows_of_each (sums_of_day l.self.loads (state_now l.core) l.flights) l.i l.first) l.initial.sheet l.sheet;
  within : l.i ≤ l.count;
}
