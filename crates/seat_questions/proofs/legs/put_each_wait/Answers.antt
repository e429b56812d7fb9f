use Rattle.seat_rules.specs.Bookings.{waiting}
use Rattle.seat_rules.specs.Inventory.{state_now}
use Rattle.seat_desk.proofs.Texts.{each_more, each_whole}
use Rattle.seat_questions.specs.Why.{wait_text}
use Rattle.seat_questions.proofs.legs.put_each_wait.Goals as goal

pub loop-step-preserved : goal.loop-step-preserved
loop-step-preserved c =
    each_more (wait_text (waiting (state_now c.args.core.now).bookings c.args.flight c.args.leg)) c.loop-step.step-index c.args.steps.now c.step-item.result c.args.text.now.items c.loop-step.text.items c.put_wait.new.text.items c.loop-step.invariant c.loop-step-test.true c.step-item.is c.in_ok-put_wait.ensures

pub returns : goal.returns
returns c = each_whole (wait_text (waiting (state_now c.args.core.now).bookings c.args.flight c.args.leg)) c.loop-step.step-index c.args.steps.now c.args.text.now.items c.loop-step.text.items c.loop-step.invariant c.loop-step-test.false
