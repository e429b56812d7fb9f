-- The rows so far are written.
use Rattle.std.proofs.Common.{take}
use Rattle.seat_tables.specs.Rows.{rows_from}
use Rattle.seat_tables.specs.Sheets.{ArePut}
use Rattle.pickup_questions.specs.PickupRows.{pickup_names, rows_of_pickup}
use Rattle.pickup_questions.proofs.pickup.put_pickups.Given as goal

abbrev pub invariant-loop-i : goal.invariant-loop-i
invariant-loop-i l = ArePut pickup_names (rows_from rows_of_pickup 0 (take l.i l.all)) l.initial.sheet l.sheet
