use Rattle.std.proofs.Common.{◌++◌, refl}
use Rattle.season_changes.specs.Changes.{each_from, of_new}
use Rattle.season_changes.proofs.Becoming.{flight_more, flights_whole}
use Rattle.season_changes.proofs.changes.add_news.Goals as goal

pub loop-i-init : goal.loop-i-init
loop-i-init c = refl

pub loop-i-preserved : goal.loop-i-preserved
loop-i-preserved c =
    flight_more (λ i. of_new c.args.asked.now c.args._flights.now) c.args.asked.now.flights.now c.loop-i.i c.flight.result c.loop-i.all.items c.add_new.new.all.items
    (c.args.all.now.items ++ each_from (λ i. of_new c.args.asked.now c.args._flights.now) 0 c.args.asked.now.flights.now)
    c.loop-i.invariant c.flight.ensures.value c.in_ok-add_new.ensures

pub returns : goal.returns
returns c =
    flights_whole (λ i. of_new c.args.asked.now c.args._flights.now) c.args.asked.now.flights.now c.loop-i.i c.len-i-end.result c.loop-i.all.items
    (c.args.all.now.items ++ each_from (λ i. of_new c.args.asked.now c.args._flights.now) 0 c.args.asked.now.flights.now)
    c.loop-i.invariant c.len-i-end.ensures.value c.loop-i-test.false
