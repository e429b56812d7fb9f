-- The rows of the flights so far are written.
use Rattle.std.proofs.Common.{take}
use Rattle.seat_rules.specs.Inventory.{state_now}
use Rattle.seat_tables.specs.Rows.{rows_from}
use Rattle.seat_tables.specs.Sheets.{ArePut}
use Rattle.table_questions.specs.SumRows.{flight_names, sums_of_flight}
use Rattle.table_questions.proofs.by_flight.FlightSumsTable.put_rows.Given as goal

abbrev pub invariant-loop-index : goal.invariant-loop-index
invariant-loop-index l = ArePut flight_names (rows_from (sums_of_flight l.self.loads (state_now l.core)) 0 (take l.index l.flights)) l.initial.sheet l.sheet
