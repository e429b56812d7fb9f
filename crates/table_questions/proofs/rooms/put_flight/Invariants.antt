-- The rows of the places that begin with the legs so far are written.
use Rattle.std.proofs.Common.{take}
use Rattle.seat_rules.specs.Inventory.{state_now}
use Rattle.seat_tables.specs.Rows.{rows_from}
use Rattle.seat_tables.specs.Sheets.{ArePut}
use Rattle.table_questions.specs.RoomRows.{first_rooms, room_names}
use Rattle.table_questions.proofs.rooms.put_flight.Given as goal

abbrev pub invariant-loop-from : goal.invariant-loop-from
invariant-loop-from l = ArePut room_names (rows_from (first_rooms l.served l.asked (state_now l.core) l.index l.flight) 0 (take l.from l.legs)) l.initial.sheet l.sheet
