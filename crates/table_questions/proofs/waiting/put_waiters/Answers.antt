use Rattle.seat_rules.specs.Inventory.{state_now}
use Rattle.seat_lists.specs.Picking.{IsThere}
use Rattle.seat_lists.proofs.LiveTexts.{of_each}
use Rattle.seat_tables.proofs.Putting.{put_more, put_none, put_whole}
use Rattle.table_questions.specs.BookingRows.{waiting_names, rows_of_waiter}
use Rattle.table_questions.proofs.waiting.put_waiters.Goals as goal

pub put_waiter-requires : goal.put_waiter-requires
put_waiter-requires c = record {
  ready = c.loop-i.invariant.ready;
  there =
      of_each (IsThere c.args.flights.now c.args.core.now.grid) c.args.bookings.now c.loop-i.i c.index-bookings-i.result c.requires.there c.loop-i-test.true c.index-bookings-i.is;
}

pub loop-i-init : goal.loop-i-init
loop-i-init c = put_none waiting_names c.args.sheet.now c.requires.ready

pub loop-i-preserved : goal.loop-i-preserved
loop-i-preserved c =
    put_more waiting_names (rows_of_waiter c.args.flights.now (state_now c.args.core.now)) 0 c.loop-i.i c.args.bookings.now c.index-bookings-i.result c.args.sheet.now c.loop-i.sheet c.put_waiter.new.sheet
    c.loop-i.invariant c.loop-i-test.true c.index-bookings-i.is c.in_ok-put_waiter.ensures

pub returns : goal.returns
returns c =
    put_whole waiting_names (rows_of_waiter c.args.flights.now (state_now c.args.core.now)) 0 c.loop-i.i c.args.bookings.now c.args.sheet.now c.loop-i.sheet c.loop-i.invariant c.loop-i-test.false
