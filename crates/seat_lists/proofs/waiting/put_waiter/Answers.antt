use Rattle.std.proofs.Common.{◌∙◌}
use Rattle.seat_rules.specs.Inventory.{state_now}
use Rattle.seat_lists.proofs.Waiters.{waiting_line}
use Rattle.seat_lists.proofs.waiting.put_waiter.Goals as goal

pub returns : goal.returns
returns c =
    waiting_line c.args.flights.now (state_now c.args.core.now) c.args.booking.now c.from.result c.args.text.now.items c.put_named.new.text.items c.put.new.text.items
    c.put_number.new.text.items c.put-2.new.text.items
    c.in_ok-put_named.ensures c.in_ok-put.ensures c.in_ok-put_number.ensures (c.from.ensures ∙ c.lacked.ensures) c.in_ok-put-2.ensures
