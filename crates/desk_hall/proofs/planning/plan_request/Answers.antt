use Rattle.std.proofs.Common.{List, ◌+◌, length, ap}
use Rattle.seat_journal.specs.declared.entry.Entry.{Entry}
use Rattle.desk_answers.proofs.Wishes.{right_request}
use Rattle.desk_hall.proofs.Planned.{planned_room}
use Rattle.desk_hall.proofs.planning.plan_request.Goals as goal

pub returns-then-asked-room-clause-right : goal.returns-then-asked-room-clause-right
returns-then-asked-room-clause-right g c =
    right_request c.args.flights.now c.args.served.now c.args.serving.now.grid c.args.session c.args.wish.now c.asked_by.result c.requires.grid
    c.requires.served c.requires.right c.requires.session.0 c.requires.session.1 c.asked_by.ensures

pub returns-then-asked-room-clause-plans : goal.returns-then-asked-room-clause-plans
returns-then-asked-room-clause-plans g c =
    planned_room c.args.flights.now c.args.serving.now.grid c.args.serving.now.cap c.args.session c.args.serving.now.journal c.args.asked.now
    c.args.wish.now c.args.served.now c.room.result (length c.journal.result.now + length c.args.asked.now) c.asked_by.result
    c.room.ensures.room c.if-asked-room.true (ap (λ (l : List Entry). length l + length c.args.asked.now) c.journal.ensures.value)
    c.asked_by.ensures c.requires.served
