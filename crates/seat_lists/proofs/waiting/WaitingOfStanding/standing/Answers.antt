use Rattle.std.proofs.Common.{true}
use Rattle.seat_rules.specs.Inventory.{state_now}
use Rattle.seat_lists.specs.Picking.{picked}
use Rattle.seat_lists.proofs.Waiters.{waiting_text}
use Rattle.seat_lists.proofs.waiting.WaitingOfStanding.standing.Goals as goal

pub returns : goal.returns
returns c =
    waiting_text c.args.flights.now (state_now c.args.core.now) c.in_ok-bookings.bookings.items c.as_slice.result.now
    (picked c.args.flights.now c.args.self.now.wanted true (state_now c.args.core.now).bookings) c.new-text.result.items c.put_waiters.new.text.items
    c.new-text.ensures.items c.in_ok-bookings.ensures.picked c.as_slice.ensures.value c.in_ok-put_waiters.ensures
