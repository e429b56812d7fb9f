use Rattle.seat_rules.specs.Inventory.{state_now}
use Rattle.seat_desk.proofs.Texts.{put_whole}
use Rattle.seat_lists.specs.Picking.{IsThere}
use Rattle.seat_lists.specs.Waiting.{IsWaitingLine}
use Rattle.seat_lists.proofs.LiveTexts.{of_each, one_more}
use Rattle.seat_lists.proofs.waiting.put_waiters.Goals as goal

pub put_waiter-requires : goal.put_waiter-requires
put_waiter-requires c =
    of_each (IsThere c.args.flights.now c.args.core.now.grid) c.args.bookings.now c.loop-i.i c.index-bookings-i.result c.requires.there c.loop-i-test.true c.index-bookings-i.is

pub loop-i-preserved : goal.loop-i-preserved
loop-i-preserved c =
    one_more (IsWaitingLine c.args.flights.now (state_now c.args.core.now)) c.loop-i.i c.args.bookings.now c.index-bookings-i.result c.args.text.now.items c.loop-i.text.items c.put_waiter.new.text.items
    c.loop-i.invariant c.loop-i-test.true c.index-bookings-i.is c.in_ok-put_waiter.ensures

pub returns : goal.returns
returns c =
    put_whole (λ n. IsWaitingLine c.args.flights.now (state_now c.args.core.now)) 0 c.loop-i.i c.args.bookings.now c.args.text.now.items c.loop-i.text.items c.loop-i.invariant c.loop-i-test.false
