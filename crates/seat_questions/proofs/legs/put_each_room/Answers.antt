use Rattle.std.proofs.Common.{ℕ, ◌++◌, ap, ◌∙◌}
use Rattle.airline_base.specs.declared.place.Place.{Place}
use Rattle.seat_rules.specs.Inventory.{state_now}
use Rattle.seat_rules.specs.Sequential.{room_left}
use Rattle.seat_desk.proofs.Texts.{each_more, each_whole}
use Rattle.seat_questions.specs.Why.{class_text, room_text}
use Rattle.seat_questions.proofs.legs.put_each_room.Goals as goal

pub loop-step-preserved : goal.loop-step-preserved
loop-step-preserved c =
    each_more (room_text (state_now c.args.core.now) c.args.flight c.args.leg) c.loop-step.step-index c.args.steps.now c.step-item.result c.args.text.now.items c.loop-step.text.items c.put_class.new.text.items c.loop-step.invariant c.loop-step-test.true c.step-item.is
    (c.in_ok-put_class.ensures ∙ ap (λ (n : ℕ). c.loop-step.text.items ++ class_text c.step-item.result.class n) (c.from.ensures ∙ c.room.ensures ∙ ap (λ (p : Place). room_left (state_now c.args.core.now) p c.step-item.result.class) c.one_leg-place.ensures))

pub returns : goal.returns
returns c = each_whole (room_text (state_now c.args.core.now) c.args.flight c.args.leg) c.loop-step.step-index c.args.steps.now c.args.text.now.items c.loop-step.text.items c.loop-step.invariant c.loop-step-test.false
