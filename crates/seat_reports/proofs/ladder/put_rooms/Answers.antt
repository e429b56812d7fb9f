use Rattle.std.proofs.Common.{ℕ, ◌++◌, ◌∷◌, [], codes, decimal, ap, sym, ◌∙◌}
use Rattle.std.proofs.lemmas.List.{append-nil}
use Rattle.seat_rules.specs.Journal.{replay}
use Rattle.seat_core.specs.Balances.{grid_of}
use Rattle.seat_desk.proofs.Texts.{each_more, each_whole}
use Rattle.seat_reports.specs.LadderDesk.{room_text}
use Rattle.seat_reports.proofs.ladder.put_rooms.Goals as goal

pub loop-step-init : goal.loop-step-init
loop-step-init c = λ past left. sym (append-nil c.args.text.now.items)

pub loop-step-preserved : goal.loop-step-preserved
loop-step-preserved c = λ past left.
    each_more (room_text (replay (grid_of c.args.balance.now) past)) c.loop-step.step-index c.args.steps.now c.step-item.result c.args.text.now.items c.loop-step.text.items c.put_room.new.text.items
    (c.loop-step.invariant past left) c.loop-step-test.true c.step-item.is
    (c.in_ok-put_room.ensures ∙ ap (λ (n : ℕ). c.loop-step.text.items ++ (codes " " ++ (c.step-item.result.class ∷ []) ++ decimal n)) (c.room.ensures past left))

pub returns : goal.returns
returns c = λ past left.
    each_whole (room_text (replay (grid_of c.args.balance.now) past)) c.loop-step.step-index c.args.steps.now c.args.text.now.items c.loop-step.text.items
    (c.loop-step.invariant past left) c.loop-step-test.false
