use Rattle.seat_rules.specs.Inventory.{state_now}
use Rattle.seat_lists.proofs.LiveTexts.{leg_at}
use Rattle.table_questions.specs.BookingRows.{waiting_names}
use Rattle.table_questions.proofs.Placed.{waiter_put}
use Rattle.table_questions.proofs.Tables.{row_put}
use Rattle.table_questions.proofs.waiting.put_waiter.Goals as goal

pub returns : goal.returns
returns c =
    let place = c.args.booking.now.place in
    waiter_put c.args.flights.now (state_now c.args.core.now) c.args.booking.now c.flight-flight.result c.index-legs-place.result c.index-legs-place-2.result c.args.sheet.now c.put_row.new.sheet
    c.flight-flight.ensures.value
    (leg_at c.args.flights.now place c.flight-flight.result c.as_slice-legs.result.now place.from c.index-legs-place.result c.requires.there.place c.flight-flight.ensures.value c.as_slice-legs.ensures c.requires.there.place.from_below c.index-legs-place.is)
    (leg_at c.args.flights.now place c.flight-flight.result c.as_slice-legs.result.now place.to c.index-legs-place-2.result c.requires.there.place c.flight-flight.ensures.value c.as_slice-legs.ensures c.requires.there.place.to_below c.index-legs-place-2.is)
    (row_put waiting_names _ _ _ c.args.sheet.now c.put_row.new.sheet c.names.ensures c.waiting_row-row.ensures c.in_ok-put_row.ensures)
