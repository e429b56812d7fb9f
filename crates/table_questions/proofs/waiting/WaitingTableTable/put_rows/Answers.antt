use Rattle.std.proofs.Common.{List, ◌∙◌, subst}
use Rattle.seat_rules.specs.Inventory.{state_now}
use Rattle.seat_rules.specs.declared.booking.Booking.{Booking}
use Rattle.seat_lists.proofs.LiveTexts.{all_sliced}
use Rattle.seat_tables.specs.Rows.{rows_from}
use Rattle.seat_tables.specs.Sheets.{ArePut}
use Rattle.table_questions.specs.BookingRows.{rows_of_waiter, waiting_names}
use Rattle.table_questions.proofs.waiting.WaitingTableTable.put_rows.Goals as goal

pub put_waiters-requires : goal.put_waiters-requires
put_waiters-requires c = record {
  ready = c.requires.ready;
  there = all_sliced c.args.flights.now c.args.core.now.grid c.in_ok-all.all.items c.as_slice.result.now c.in_ok-all.ensures.there c.as_slice.ensures.value;
}

pub returns : goal.returns
returns c =
    subst (λ (l : List Booking). ArePut waiting_names (rows_from (rows_of_waiter c.args.flights.now (state_now c.args.core.now)) 0 l) c.args.sheet.now c.put_waiters.new.sheet)
    (c.as_slice.ensures.value ∙ c.in_ok-all.ensures.picked) c.in_ok-put_waiters.ensures
