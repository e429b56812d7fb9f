use Rattle.seat_lists.proofs.LiveTexts.{booking_line}
use Rattle.seat_lists.proofs.bookings.put_booking.Goals as goal

pub returns : goal.returns
returns c =
    booking_line c.args.flights.now c.args.alone c.args.booking.now c.args.text.now.items c.put_named.new.text.items c.put.new.text.items
    c.in_ok-put_named.ensures c.in_ok-put.ensures
