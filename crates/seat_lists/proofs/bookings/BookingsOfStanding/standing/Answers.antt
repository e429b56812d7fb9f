use Rattle.std.proofs.Common.{false}
use Rattle.seat_rules.specs.Inventory.{state_now}
use Rattle.seat_lists.specs.LiveBookings.{names_one}
use Rattle.seat_lists.specs.Picking.{picked}
use Rattle.seat_lists.proofs.LiveTexts.{all_placed, bookings_text}
use Rattle.seat_lists.proofs.bookings.BookingsOfStanding.standing.Goals as goal

pub put_bookings-requires : goal.put_bookings-requires
put_bookings-requires c = record {
  there = all_placed c.args.flights.now c.args.core.now.grid c.args.self.now.wanted.flight c.in_ok-all.all.items c.in_ok-shown.shown.items c.as_slice.result.now
      c.in_ok-all.ensures.there c.in_ok-shown.ensures c.as_slice.ensures.value;
}

pub returns : goal.returns
returns c =
    bookings_text c.args.flights.now (names_one c.args.self.now.wanted) c.args.self.now.wanted.flight c.in_ok-all.all.items c.in_ok-shown.shown.items c.as_slice.result.now
    (picked c.args.flights.now c.args.self.now.wanted false (state_now c.args.core.now).bookings) c.new-text.result.items c.put_bookings.new.text.items
    c.new-text.ensures.items c.in_ok-all.ensures.picked c.in_ok-shown.ensures c.as_slice.ensures.value c.in_ok-put_bookings.ensures
