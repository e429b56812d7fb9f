-- The rows of the bookings so far are written.
use Rattle.std.proofs.Common.{take}
use Rattle.seat_rules.specs.Inventory.{state_now}
use Rattle.seat_tables.specs.Rows.{rows_from}
use Rattle.seat_tables.specs.Sheets.{ArePut}
use Rattle.table_questions.specs.BookingRows.{waiting_names, rows_of_waiter}
use Rattle.table_questions.proofs.waiting.put_waiters.Given as goal

abbrev pub invariant-loop-i : goal.invariant-loop-i
invariant-loop-i l = ArePut waiting_names (rows_from (rows_of_waiter l.flights (state_now l.core)) 0 (take l.i l.bookings)) l.initial.sheet l.sheet
