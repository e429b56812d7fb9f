use Rattle.std.proofs.Common.{List, ◌∙◌, ap}
use Rattle.ssim_flights.specs.declared.flight.DatedLeg.{DatedLeg}
use Rattle.seat_questions.proofs.Covers.{there, here}
use Rattle.seat_loads.specs.Legs.{is_kept}
use Rattle.table_questions.specs.SumRows.{with_legs}
use Rattle.table_questions.proofs.Pairs.{flight_more}
use Rattle.table_questions.proofs.by_pair.kept_pairs.Goals as goal

pub loop-index-preserved : goal.loop-index-preserved
loop-index-preserved c =
    flight_more c.args.asked.now c.args.flights.now c.loop-index.index c.flight-flight.result c.loop-index.pairs.items c.add_legs.new.pairs.items _ c.loop-index.invariant
    (there c.args.flights.now c.loop-index.index c.flight-flight.result c.flight-flight.ensures.value) (here c.args.flights.now c.loop-index.index c.flight-flight.result c.flight-flight.ensures.value)
    (c.in_ok-add_legs.ensures ∙ ap (λ (l : List DatedLeg). with_legs (is_kept c.args.asked.now) c.loop-index.pairs.items l) c.as_slice.ensures)
