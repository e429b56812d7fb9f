-- The rows of the days so far are written.
use Rattle.std.proofs.Common.{◌≤◌}
use Rattle.seat_tables.specs.Sheets.{ArePut}
use Rattle.table_questions.specs.SumRows.{rows_of_each}
use Rattle.pickup_questions.specs.Groups.{group_of}
use Rattle.pickup_questions.specs.GroupRows.{day_names, rows_of_day}
use Rattle.pickup_questions.proofs.by_day.put_days.Given as goal

abbrev pub invariant-loop-i : goal.invariant-loop-i
invariant-loop-i l = record {
  rows : ArePut day_names (rows_of_each (rows_of_day (group_of l.moved.groups) l.first l.moved.all.now) l.i 0) l.initial.sheet l.sheet;
  within : l.i ≤ l.count;
}
