use Rattle.seat_lists.proofs.LiveTexts.{leg_at}
use Rattle.table_questions.specs.BookingRows.{booking_names}
use Rattle.table_questions.proofs.Placed.{booking_put}
use Rattle.table_questions.proofs.Tables.{row_put}
use Rattle.table_questions.proofs.bookings.put_booking.Goals as goal

pub returns : goal.returns
returns c =
    let place = c.args.booking.now.place in
    booking_put c.args.flights.now c.args.booking.now c.flight-flight.result c.index-legs-place.result c.index-legs-place-2.result c.args.sheet.now c.put_row.new.sheet
    c.flight-flight.ensures.value
    (leg_at c.args.flights.now place c.flight-flight.result c.as_slice-legs.result.now place.from c.index-legs-place.result c.requires.there c.flight-flight.ensures.value c.as_slice-legs.ensures c.requires.there.from_below c.index-legs-place.is)
    (leg_at c.args.flights.now place c.flight-flight.result c.as_slice-legs.result.now place.to c.index-legs-place-2.result c.requires.there c.flight-flight.ensures.value c.as_slice-legs.ensures c.requires.there.to_below c.index-legs-place-2.is)
    (row_put booking_names _ _ _ c.args.sheet.now c.put_row.new.sheet c.names.ensures c.booking_row-row.ensures c.in_ok-put_row.ensures)
