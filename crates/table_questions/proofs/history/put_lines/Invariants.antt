-- The rows so far are written.
use Rattle.std.proofs.Common.{take}
use Rattle.desk_questions.specs.History.{is_wanted}
use Rattle.seat_tables.specs.Rows.{rows_from}
use Rattle.seat_tables.specs.Sheets.{ArePut}
use Rattle.table_questions.specs.HistoryRows.{line_rows, history_names}
use Rattle.table_questions.proofs.history.put_lines.Given as goal

abbrev pub invariant-loop-i : goal.invariant-loop-i
invariant-loop-i l = ArePut history_names (rows_from (line_rows l.flights l.journal (is_wanted l.flights l.wanted)) 0 (take l.i l.journal)) l.initial.sheet l.sheet
