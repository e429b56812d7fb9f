-- The rows of the places that end with the legs so far are written.
use Rattle.std.proofs.Common.{take}
use Rattle.seat_rules.specs.Inventory.{state_now}
use Rattle.seat_tables.specs.Rows.{rows_from}
use Rattle.seat_tables.specs.Sheets.{ArePut}
use Rattle.table_questions.specs.RoomRows.{last_rooms, room_names}
use Rattle.table_questions.proofs.rooms.put_runs.Given as goal

abbrev pub invariant-loop-k : goal.invariant-loop-k
invariant-loop-k l =
    ArePut room_names (rows_from (last_rooms l.served l.asked (state_now l.core) l.start.flight l.flight l.start.from l.first) l.start.from (take l.k l.rest))
    l.initial.sheet l.sheet
