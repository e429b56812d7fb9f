-- The rows of the bookings so far are written.
use Rattle.std.proofs.Common.{take}
use Rattle.seat_tables.specs.Rows.{rows_from}
use Rattle.seat_tables.specs.Sheets.{ArePut}
use Rattle.table_questions.specs.BookingRows.{booking_names, rows_of_booking}
use Rattle.table_questions.proofs.bookings.put_bookings.Given as goal

abbrev pub invariant-loop-i : goal.invariant-loop-i
invariant-loop-i l = ArePut booking_names (rows_from (rows_of_booking l.flights) 0 (take l.i l.bookings)) l.initial.sheet l.sheet
