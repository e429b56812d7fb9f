use Rattle.std.proofs.Common.{◌≡◌, ◌++◌, List, map, refl, subst}
use Rattle.ssim_flights.specs.declared.flight.Flight.{Flight}
use Rattle.seat_rules.specs.Inventory.{state_now}
use Rattle.seat_questions.proofs.Covers.{there, here}
use Rattle.seat_availability.specs.Messages.{message_of, segments_of_flight}
use Rattle.seat_availability.proofs.Adding.{part_more, parts_whole}
use Rattle.seat_availability.proofs.segments.messages.Goals as goal

pub loop-index-preserved : goal.loop-index-preserved
loop-index-preserved c =
    let tell = message_of c.args.asked.now (state_now c.args.core.now) in
    part_more tell (segments_of_flight c.args.flights.now c.args.asked.now c.args.core.now.grid) c.loop-index.index _ c.loop-index.index c.args.flights.now c.flight.result
    c.loop-index.all.items c.add_flight.new.all.items _ c.loop-index.invariant
    (there c.args.flights.now c.loop-index.index c.flight.result c.flight.ensures.value) (here c.args.flights.now c.loop-index.index c.flight.result c.flight.ensures.value)
    (subst (λ (l : List Flight). c.add_flight.new.all.items ≡ c.loop-index.all.items ++ map tell (segments_of_flight l c.args.asked.now c.args.core.now.grid c.loop-index.index c.flight.result))
    c.requires.served c.in_ok-add_flight.ensures) refl

pub returns : goal.returns
returns c =
    parts_whole (message_of c.args.asked.now (state_now c.args.core.now)) (segments_of_flight c.args.flights.now c.args.asked.now c.args.core.now.grid) c.loop-index.index c.loop-index.index
    c.len-index-end.result c.args.flights.now c.loop-index.all.items _ c.loop-index.invariant c.len-index-end.ensures.value c.loop-index-test.false
