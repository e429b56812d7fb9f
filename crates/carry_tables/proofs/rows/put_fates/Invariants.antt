-- The rows of the bookings so far are written.
use Rattle.std.proofs.Common.{take}
use Rattle.seat_tables.specs.Rows.{rows_from}
use Rattle.seat_tables.specs.Sheets.{ArePut}
use Rattle.carry_tables.specs.FateRows.{carry_names, fate_rows}
use Rattle.carry_tables.proofs.rows.put_fates.Given as goal

abbrev pub invariant-loop-i : goal.invariant-loop-i
invariant-loop-i l = ArePut (carry_names l.counts) (rows_from (fate_rows l.counts l.olds l.news) 0 (take l.i l.all)) l.initial.sheet l.sheet
