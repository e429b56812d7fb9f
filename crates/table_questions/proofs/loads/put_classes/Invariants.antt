-- The rows of the classes so far are written.
use Rattle.std.proofs.Common.{take}
use Rattle.seat_rules.specs.Inventory.{state_now}
use Rattle.seat_tables.specs.Rows.{rows_from}
use Rattle.seat_tables.specs.Sheets.{ArePut}
use Rattle.table_questions.specs.LoadRows.{class_rows, load_names}
use Rattle.table_questions.proofs.loads.put_classes.Given as goal

abbrev pub invariant-loop-k : goal.invariant-loop-k
invariant-loop-k l = ArePut load_names (rows_from (class_rows (state_now l.core) l.index l.flight l.leg l.dated) 0 (take l.k l.steps)) l.initial.sheet l.sheet
