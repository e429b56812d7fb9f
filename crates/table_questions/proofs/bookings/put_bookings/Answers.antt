use Rattle.seat_lists.specs.Picking.{HasPlace}
use Rattle.seat_lists.proofs.LiveTexts.{of_each}
use Rattle.seat_tables.proofs.Putting.{put_more, put_none, put_whole}
use Rattle.table_questions.specs.BookingRows.{booking_names, rows_of_booking}
use Rattle.table_questions.proofs.bookings.put_bookings.Goals as goal

pub put_booking-requires : goal.put_booking-requires
put_booking-requires c = record {
  ready = c.loop-i.invariant.ready;
  there =
      of_each (λ b. HasPlace c.args.flights.now b.place) c.args.bookings.now c.loop-i.i c.index-bookings-i.result c.requires.there c.loop-i-test.true c.index-bookings-i.is;
}

pub loop-i-init : goal.loop-i-init
loop-i-init c = put_none booking_names c.args.sheet.now c.requires.ready

pub loop-i-preserved : goal.loop-i-preserved
loop-i-preserved c =
    put_more booking_names (rows_of_booking c.args.flights.now) 0 c.loop-i.i c.args.bookings.now c.index-bookings-i.result c.args.sheet.now c.loop-i.sheet c.put_booking.new.sheet
    c.loop-i.invariant c.loop-i-test.true c.index-bookings-i.is c.in_ok-put_booking.ensures

pub returns : goal.returns
returns c =
    put_whole booking_names (rows_of_booking c.args.flights.now) 0 c.loop-i.i c.args.bookings.now c.args.sheet.now c.loop-i.sheet c.loop-i.invariant c.loop-i-test.false
