use Rattle.seat_rules.specs.Inventory.{state_now}
use Rattle.seat_questions.specs.Rooms.{room_text}
use Rattle.seat_desk.proofs.Texts.{each_more}
use Rattle.seat_questions.proofs.rooms.put_rooms.Goals as goal

pub loop-step-preserved : goal.loop-step-preserved
loop-step-preserved c =
    each_more (room_text (state_now c.args.core.now) c.args.place) c.loop-step.step-index c.steps-steps.result.now c.step-item.result c.args.text.now.items c.loop-step.text.items c.put_room.new.text.items c.loop-step.invariant c.loop-step-test.true c.step-item.is c.in_ok-put_room.ensures
