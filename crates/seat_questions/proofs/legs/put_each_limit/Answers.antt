use Rattle.std.proofs.Common.{ℕ, ◌++◌, ap, ◌∙◌}
use Rattle.seat_desk.proofs.Texts.{each_more, each_whole}
use Rattle.seat_questions.specs.Why.{class_text, limit_text}
use Rattle.seat_questions.proofs.legs.put_each_limit.Goals as goal

pub loop-step-preserved : goal.loop-step-preserved
loop-step-preserved c =
    each_more limit_text c.loop-step.step-index c.args.steps.now c.step-item.result c.args.text.now.items c.loop-step.text.items c.put_class.new.text.items c.loop-step.invariant c.loop-step-test.true c.step-item.is
    (c.in_ok-put_class.ensures ∙ ap (λ (n : ℕ). c.loop-step.text.items ++ class_text c.step-item.result.class n) c.from.ensures)

pub returns : goal.returns
returns c = each_whole limit_text c.loop-step.step-index c.args.steps.now c.args.text.now.items c.loop-step.text.items c.loop-step.invariant c.loop-step-test.false
