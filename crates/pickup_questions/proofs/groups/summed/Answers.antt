use Rattle.pickup_questions.specs.Groups.{group_of}
use Rattle.pickup_questions.proofs.Moving.{moved_all, moved_more, moved_none}
use Rattle.pickup_questions.proofs.groups.summed.Goals as goal

pub loop-pickup-init : goal.loop-pickup-init
loop-pickup-init c =
    moved_none (group_of c.args.groups.now) c.args.count c.args.of c.args.all.now c.in_ok-row.row.items (c.in_ok-row.ensures.items_if_clones_equal (λ y same. same))

pub loop-pickup-preserved : goal.loop-pickup-preserved
loop-pickup-preserved c =
    moved_more (group_of c.args.groups.now) c.args.count c.args.of c.args.all.now c.loop-pickup.pickup-index c.pickup-item.result c.group_of.result c.move_of.result c.loop-pickup.row.items c.add_at.new.row.items
    c.loop-pickup.invariant c.loop-pickup-test.true c.pickup-item.is c.group_of.ensures c.move_of.ensures c.in_ok-add_at.ensures

pub returns : goal.returns
returns c =
    moved_all (group_of c.args.groups.now) c.args.count c.args.of c.args.all.now c.loop-pickup.pickup-index c.loop-pickup.row.items c.loop-pickup.invariant c.loop-pickup-test.false
