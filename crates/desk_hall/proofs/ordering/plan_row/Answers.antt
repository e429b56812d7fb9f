use Rattle.std.proofs.Common.{List, ◌+◌, length, ap}
use Rattle.seat_journal.specs.declared.entry.Entry.{Entry}
use Rattle.desk_hall.proofs.Ordered.{row_right, row_room}
use Rattle.desk_hall.proofs.ordering.plan_row.Goals as goal

pub returns-then-asked-room-clause-right : goal.returns-then-asked-room-clause-right
returns-then-asked-room-clause-right g c =
    row_right c.args.flights.now c.args.serving.now.grid c.args.control c.control_asked.result c.requires.grid c.requires.right
    c.control_asked.ensures

pub returns-then-asked-room-clause-plans : goal.returns-then-asked-room-clause-plans
returns-then-asked-room-clause-plans g c =
    row_room c.args.serving.now.grid c.args.serving.now.cap c.args.serving.now.journal c.args.asked.now c.args.control
    c.room.result (length c.journal.result.now + length c.args.asked.now) c.control_asked.result c.room.ensures.room
    c.if-asked-room.true (ap (λ (l : List Entry). length l + length c.args.asked.now) c.journal.ensures.value) c.control_asked.ensures
