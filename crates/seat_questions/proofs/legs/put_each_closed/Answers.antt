use Rattle.seat_desk.proofs.Texts.{each_more, each_whole}
use Rattle.seat_questions.specs.Why.{closed_text}
use Rattle.seat_questions.proofs.legs.put_each_closed.Goals as goal

pub loop-step-preserved : goal.loop-step-preserved
loop-step-preserved c =
    each_more closed_text c.loop-step.step-index c.args.steps.now c.step-item.result c.args.text.now.items c.loop-step.text.items c.put_if_closed.new.text.items c.loop-step.invariant c.loop-step-test.true c.step-item.is c.in_ok-put_if_closed.ensures

pub returns : goal.returns
returns c = each_whole closed_text c.loop-step.step-index c.args.steps.now c.args.text.now.items c.loop-step.text.items c.loop-step.invariant c.loop-step-test.false
