use Rattle.seat_rules.specs.Inventory.{state_now}
use Rattle.seat_pickup.proofs.Picking.{held_is}
use Rattle.seat_pickup.proofs.moved.held_in.Goals as goal

pub returns : goal.returns
returns c =
    held_is c.args.split c.bookings_on.result.now (state_now c.args.core.now).bookings c.args.flight c.args.letter c.held_among.result c.bookings_on.ensures
    c.held_among.ensures
