use Rattle.std.proofs.Common.{◌++◌, refl}
use Rattle.seat_rules.specs.Inventory.{state_now}
use Rattle.season_changes.specs.Changes.{each_from, of_old}
use Rattle.season_changes.proofs.Becoming.{flight_more, flights_whole}
use Rattle.season_changes.proofs.changes.add_olds.Goals as goal

pub loop-i-init : goal.loop-i-init
loop-i-init c = refl

pub loop-i-preserved : goal.loop-i-preserved
loop-i-preserved c =
    flight_more (of_old c.args.asked.now c.args.core.now.grid (state_now c.args.core.now).bookings) c.args.flights.now c.loop-i.i c.flight.result c.loop-i.all.items c.add_old.new.all.items
    (c.args.all.now.items ++ each_from (of_old c.args.asked.now c.args.core.now.grid (state_now c.args.core.now).bookings) 0 c.args.flights.now)
    c.loop-i.invariant c.flight.ensures.value c.in_ok-add_old.ensures

pub returns : goal.returns
returns c =
    flights_whole (of_old c.args.asked.now c.args.core.now.grid (state_now c.args.core.now).bookings) c.args.flights.now c.loop-i.i c.len-i-end.result c.loop-i.all.items
    (c.args.all.now.items ++ each_from (of_old c.args.asked.now c.args.core.now.grid (state_now c.args.core.now).bookings) 0 c.args.flights.now)
    c.loop-i.invariant c.len-i-end.ensures.value c.loop-i-test.false
