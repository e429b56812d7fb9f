use Rattle.std.proofs.Common.{List, ◌∙◌, ap, subst}
use Rattle.seat_rules.specs.declared.booking.Booking.{Booking}
use Rattle.seat_lists.specs.Listing.{listed}
use Rattle.seat_lists.proofs.LiveTexts.{all_placed}
use Rattle.seat_tables.specs.Rows.{rows_from}
use Rattle.seat_tables.specs.Sheets.{ArePut}
use Rattle.table_questions.specs.BookingRows.{booking_names, rows_of_booking}
use Rattle.table_questions.proofs.bookings.BookingTableTable.put_rows.Goals as goal

pub put_bookings-requires : goal.put_bookings-requires
put_bookings-requires c = record {
  ready = c.requires.ready;
  there = all_placed c.args.flights.now c.args.core.now.grid c.args.self.now.wanted.flight c.in_ok-all.all.items c.in_ok-shown.shown.items c.as_slice.result.now
      c.in_ok-all.ensures.there c.in_ok-shown.ensures c.as_slice.ensures.value;
}

pub returns : goal.returns
returns c =
    subst (λ (l : List Booking). ArePut booking_names (rows_from (rows_of_booking c.args.flights.now) 0 l) c.args.sheet.now c.put_bookings.new.sheet)
    (c.as_slice.ensures.value ∙ c.in_ok-shown.ensures ∙ ap (listed c.args.self.now.wanted.flight) c.in_ok-all.ensures.picked) c.in_ok-put_bookings.ensures
