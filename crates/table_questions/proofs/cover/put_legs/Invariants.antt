-- The rows of the legs so far are written.
use Rattle.std.proofs.Common.{take}
use Rattle.seat_tables.specs.Rows.{rows_from}
use Rattle.seat_tables.specs.Sheets.{ArePut}
use Rattle.table_questions.specs.CoverRows.{cover_names, rows_of_leg}
use Rattle.table_questions.proofs.cover.put_legs.Given as goal

abbrev pub invariant-loop-j : goal.invariant-loop-j
invariant-loop-j l = ArePut cover_names (rows_from (rows_of_leg l.rows l.index l.flight) 0 (take l.j l.legs)) l.initial.sheet l.sheet
