use Rattle.seat_lists.proofs.LiveTexts.{booking_named}
use Rattle.seat_lists.proofs.named.put_named.Goals as goal

pub returns : goal.returns
returns c =
    booking_named c.args.flights.now c.args.alone c.args.booking.now c.flight-flight.result c.index-legs-place.result c.index-legs-place-2.result c.as_slice-legs.result.now c.from.result
    c.args.text.now.items c.put_number.new.text.items c.put.new.text.items c.put_locator.new.text.items c.put_segment.new.text.items
    c.requires c.flight-flight.ensures.value c.as_slice-legs.ensures c.index-legs-place.is c.index-legs-place-2.is
    c.in_ok-put_number.ensures c.from.ensures c.in_ok-put.ensures c.in_ok-put_locator.ensures c.in_ok-put_segment.ensures
