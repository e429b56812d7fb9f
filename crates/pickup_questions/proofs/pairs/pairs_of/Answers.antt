use Rattle.std.proofs.Common.{List, ◌∙◌, ap}
use Rattle.ssim_flights.specs.declared.flight.DatedLeg.{DatedLeg}
use Rattle.seat_questions.proofs.Covers.{there, here}
use Rattle.seat_questions.specs.declared.rooms.CityPair.{CityPair}
use Rattle.pickup_questions.specs.PairRows.{pairs_of, with_flights, with_places}
use Rattle.pickup_questions.proofs.Pairing.{flight_more, flights_whole}
use Rattle.pickup_questions.proofs.pairs.pairs_of.Goals as goal

pub loop-index-init : goal.loop-index-init
loop-index-init c = ap (λ (l : List CityPair). with_flights l c.args.flights.now) c.new-pairs.ensures.items

pub loop-index-preserved : goal.loop-index-preserved
loop-index-preserved c =
    flight_more c.args.flights.now c.loop-index.index c.flight-flight.result c.loop-index.pairs.items c.add_places.new.pairs.items _ c.loop-index.invariant
    (there c.args.flights.now c.loop-index.index c.flight-flight.result c.flight-flight.ensures.value) (here c.args.flights.now c.loop-index.index c.flight-flight.result c.flight-flight.ensures.value)
    (c.in_ok-add_places.ensures ∙ ap (λ (l : List DatedLeg). with_places c.loop-index.pairs.items l) c.as_slice.ensures)

pub returns : goal.returns
returns c =
    flights_whole c.args.flights.now c.loop-index.index c.len-index-end.result c.loop-index.pairs.items (pairs_of c.args.flights.now) c.loop-index.invariant c.len-index-end.ensures.value
    c.loop-index-test.false
