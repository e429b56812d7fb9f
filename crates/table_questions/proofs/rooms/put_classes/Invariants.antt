-- The rows of the classes so far are written.
use Rattle.std.proofs.Common.{take}
use Rattle.seat_rules.specs.Inventory.{state_now}
use Rattle.seat_tables.specs.Rows.{rows_from}
use Rattle.seat_tables.specs.Sheets.{ArePut}
use Rattle.table_questions.specs.RoomRows.{class_rooms, room_names}
use Rattle.table_questions.proofs.rooms.put_classes.Given as goal

abbrev pub invariant-loop-k : goal.invariant-loop-k
invariant-loop-k l = ArePut room_names (rows_from (class_rooms (state_now l.core) l.flight l.place l.run) 0 (take l.k l.steps)) l.initial.sheet l.sheet
