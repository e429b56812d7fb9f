use Rattle.std.proofs.Common.{◌∙◌}
use Rattle.std.proofs.lemmas.Result.{on_ok_weaker}
use Rattle.seat_rules.specs.Inventory.{state_now}
use Rattle.seat_loads.proofs.LoadTexts.{leg_fits, standing_put}
use Rattle.seat_loads.proofs.leg.put_standing.Goals as goal

pub put_each_room-requires : goal.put_each_room-requires
put_each_room-requires c = record { fits = leg_fits c.args.core.now.grid c.args.flight c.args.leg c.requires.there }

pub returns : goal.returns
returns c =
    on_ok_weaker c.put_each_wait.result
    (standing_put (state_now c.args.core.now) c.args.flight c.args.leg c.held_on.result c.from.result c.steps-steps.result.now
    c.args.text.now.items c.put.new.text.items c.put_share.new.text.items c.put_classes.new.text.items c.put-2.new.text.items c.put_each_room.new.text.items c.put-3.new.text.items c.put_each_wait.new.text.items
    c.steps-steps.ensures.value c.held_on.ensures.value (c.from.ensures ∙ c.top_limit.ensures) c.in_ok-put.ensures c.in_ok-put_share.ensures c.in_ok-put_classes.ensures c.in_ok-put-2.ensures c.in_ok-put_each_room.ensures c.in_ok-put-3.ensures)
    c.put_each_wait.ensures
