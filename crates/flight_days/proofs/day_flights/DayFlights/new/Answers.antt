use Rattle.std.proofs.Common.{List, subst, sym}
use Rattle.std.proofs.lemmas.Option.{get_or_from_slice_get, slice_get_within}
use Rattle.ssim_flights.specs.declared.flight.DatedLeg.{DatedLeg}
use Rattle.flight_days.specs.Leaving.{in_list, PutsLast}
use Rattle.flight_days.proofs.Listing.{days_more, days_none, days_whole}
use Rattle.flight_days.proofs.day_flights.DayFlights.new.Goals as goal

pub loop-index-init : goal.loop-index-init
loop-index-init c = days_none c.in_ok-days.days c.in_ok-days.ensures

pub loop-index-preserved : goal.loop-index-preserved
loop-index-preserved c =
    let flight = c.flight-flight.result in
    let index = c.loop-index.index in
    let listed : PutsLast c.loop-index.days c.add_legs.new.days index (in_list flight.legs) =
    subst (λ (l : List DatedLeg). PutsLast c.loop-index.days c.add_legs.new.days index (in_list l)) c.as_slice.ensures c.in_ok-add_legs.ensures in
    days_more c.loop-index.days c.add_legs.new.days c.args.flights.now index flight
    (slice_get_within c.args.flights.now index flight c.flight-flight.ensures.value)
    (sym (get_or_from_slice_get c.args.flights.now index flight flight c.flight-flight.ensures.value))
    c.loop-index.invariant listed

pub returns : goal.returns
returns c = days_whole c.loop-index.days c.args.flights.now c.loop-index.index c.len-index-end.result c.loop-index.invariant c.len-index-end.ensures.value c.loop-index-test.false
