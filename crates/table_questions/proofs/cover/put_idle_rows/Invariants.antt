-- The limit rows so far are written.
use Rattle.std.proofs.Common.{take}
use Rattle.seat_tables.specs.Rows.{rows_from}
use Rattle.seat_tables.specs.Sheets.{ArePut}
use Rattle.table_questions.specs.CoverRows.{cover_names, rows_of_row}
use Rattle.table_questions.proofs.cover.put_idle_rows.Given as goal

abbrev pub invariant-loop-i : goal.invariant-loop-i
invariant-loop-i l = ArePut cover_names (rows_from (rows_of_row l.rows l.flights) 1 (take l.i l.rows)) l.initial.sheet l.sheet
