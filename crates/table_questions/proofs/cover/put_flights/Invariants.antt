-- The rows of the flights so far are written.
use Rattle.std.proofs.Common.{take}
use Rattle.seat_tables.specs.Rows.{rows_from}
use Rattle.seat_tables.specs.Sheets.{ArePut}
use Rattle.table_questions.specs.CoverRows.{cover_names, rows_of_flight}
use Rattle.table_questions.proofs.cover.put_flights.Given as goal

abbrev pub invariant-loop-index : goal.invariant-loop-index
invariant-loop-index l = ArePut cover_names (rows_from (rows_of_flight l.rows) 0 (take l.index l.flights)) l.initial.sheet l.sheet
