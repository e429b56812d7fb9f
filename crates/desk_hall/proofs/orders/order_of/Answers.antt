use Rattle.desk_hall.proofs.orders.order_of.Goals as goal

pub returns-clause-right : goal.returns-clause-right
returns-clause-right c = c.order_by_epoch.ensures.right c.args.served.now c.in_ok-order.ensures.right

pub returns-then-is_for_desk-clause-right : goal.returns-then-is_for_desk-clause-right
returns-then-is_for_desk-clause-right c = c.order_in.ensures.right c.args.served.now
