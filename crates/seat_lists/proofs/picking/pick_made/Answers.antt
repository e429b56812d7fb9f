use Rattle.seat_rules.specs.Inventory.{state_now}
use Rattle.seat_lists.specs.Picking.{is_asked}
use Rattle.seat_lists.proofs.Picks.{on_ok, one_picked}
use Rattle.seat_lists.proofs.picking.pick_made.Goals as goal

pub returns-in-Some : goal.returns-in-Some
returns-in-Some c =
    on_ok c.pick.result _ _
    (one_picked (is_asked c.args.flights.now c.args.wanted.now c.args.waiting) c.args.line.now.number (state_now c.args.core.now).bookings c.in-Some.booking.now
    c.args.all.now.items c.pick.new.all.items c.in-Some.ensures.found)
    c.pick.ensures
