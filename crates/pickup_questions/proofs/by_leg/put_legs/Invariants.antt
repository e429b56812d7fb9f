-- The rows of the legs so far are written.
use Rattle.std.proofs.Common.{take}
use Rattle.seat_pickup.specs.Moves.{is_at}
use Rattle.seat_pickup.specs.Pickups.{moved_behind}
use Rattle.seat_tables.specs.Rows.{rows_from}
use Rattle.seat_tables.specs.Sheets.{ArePut}
use Rattle.pickup_questions.specs.LegRows.{leg_names, rows_of_leg}
use Rattle.pickup_questions.proofs.by_leg.put_legs.Given as goal

abbrev pub invariant-loop-j : goal.invariant-loop-j
invariant-loop-j l =
    ArePut leg_names (rows_from (rows_of_leg (moved_behind l.core.grid l.core.journal l.lines (is_at l.moves.split)) l.index l.flight) 0 (take l.j l.legs)) l.initial.sheet l.sheet
