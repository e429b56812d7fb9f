-- The rows of the flights so far are written.
use Rattle.std.proofs.Common.{take}
use Rattle.seat_pickup.specs.Moves.{is_at}
use Rattle.seat_pickup.specs.Pickups.{moved_behind}
use Rattle.seat_tables.specs.Rows.{rows_from}
use Rattle.seat_tables.specs.Sheets.{ArePut}
use Rattle.pickup_questions.specs.LegRows.{leg_names, rows_of_legs}
use Rattle.pickup_questions.proofs.by_leg.put_flights.Given as goal

abbrev pub invariant-loop-index : goal.invariant-loop-index
invariant-loop-index l =
    ArePut leg_names (rows_from (rows_of_legs l.asked (moved_behind l.core.grid l.core.journal l.lines (is_at l.moves.split))) 0 (take l.index l.flights)) l.initial.sheet l.sheet
