use Rattle.seat_core.specs.Balances.{grid_of}
use Rattle.seat_reports.proofs.Answering.{below, none_yet, one_more}
use Rattle.seat_reports.proofs.ladder.put_replies.Goals as goal

pub loop-order-init : goal.loop-order-init
loop-order-init c = none_yet c.args.orders.now c.args.text.now.items c.args.balance.now c.requires.new

pub loop-order-preserved : goal.loop-order-preserved
loop-order-preserved c =
    let reply = c.in_ok-put_reply.ensures in
    one_more (grid_of c.args.balance.now) c.args.orders.now c.loop-order.order-index c.order-item.result c.args.text.now.items c.loop-order.text.items c.put_reply.new.text.items
    c.loop-order.balance c.put_reply.new.balance c.loop-order.invariant c.loop-order-test.true c.order-item.is reply.text reply.left reply.grid

pub put_reply-requires-clause-below : goal.put_reply-requires-clause-below
put_reply-requires-clause-below c =
    below (grid_of c.args.balance.now) c.args.orders.now c.loop-order.order-index c.args.text.now.items c.loop-order.text.items c.loop-order.balance c.loop-order.invariant c.loop-order-test.true c.requires.few
