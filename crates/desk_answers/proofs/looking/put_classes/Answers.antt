use Rattle.desk_answers.specs.Looks.{class_text}
use Rattle.seat_desk.proofs.Texts.{each_more}
use Rattle.desk_answers.proofs.looking.put_classes.Goals as goal

pub loop-step-preserved : goal.loop-step-preserved
loop-step-preserved g c =
    each_more (class_text (g.S.Seats.state c.args.seats.now) c.args.place) c.loop-step.step-index c.steps-steps.result.now c.step-item.result c.args.text.now.items c.loop-step.text.items c.put_class.new.text.items c.loop-step.invariant c.loop-step-test.true c.step-item.is c.in_ok-put_class.ensures
