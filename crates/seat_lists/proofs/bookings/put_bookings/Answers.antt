use Rattle.seat_desk.proofs.Texts.{put_whole}
use Rattle.seat_lists.specs.LiveBookings.{IsBookingLine}
use Rattle.seat_lists.specs.Picking.{HasPlace}
use Rattle.seat_lists.proofs.LiveTexts.{of_each, one_more}
use Rattle.seat_lists.proofs.bookings.put_bookings.Goals as goal

pub put_booking-requires : goal.put_booking-requires
put_booking-requires c =
    of_each (λ b. HasPlace c.args.flights.now b.place) c.args.bookings.now c.loop-i.i c.index-bookings-i.result c.requires.there c.loop-i-test.true c.index-bookings-i.is

pub loop-i-preserved : goal.loop-i-preserved
loop-i-preserved c =
    one_more (IsBookingLine c.args.flights.now c.args.alone) c.loop-i.i c.args.bookings.now c.index-bookings-i.result c.args.text.now.items c.loop-i.text.items c.put_booking.new.text.items
    c.loop-i.invariant c.loop-i-test.true c.index-bookings-i.is c.in_ok-put_booking.ensures

pub returns : goal.returns
returns c =
    put_whole (λ n. IsBookingLine c.args.flights.now c.args.alone) 0 c.loop-i.i c.args.bookings.now c.args.text.now.items c.loop-i.text.items c.loop-i.invariant c.loop-i-test.false
