-- The rows of the flights so far are written.
use Rattle.std.proofs.Common.{take}
use Rattle.seat_tables.specs.Rows.{rows_from}
use Rattle.seat_tables.specs.Sheets.{ArePut}
use Rattle.table_questions.specs.FlightTable.{flight_names, rows_of_flight}
use Rattle.table_questions.proofs.flights.put_flights.Given as goal

abbrev pub invariant-loop-index : goal.invariant-loop-index
invariant-loop-index l = ArePut flight_names (rows_from rows_of_flight 0 (take l.index l.flights)) l.initial.sheet l.sheet
