use Rattle.std.proofs.Common.{List, ◌∙◌, ap}
use Rattle.ssim_flights.specs.declared.flight.DatedLeg.{DatedLeg}
use Rattle.seat_questions.proofs.Covers.{there, here}
use Rattle.table_questions.specs.SumRows.{earliest, earliest_of}
use Rattle.table_questions.proofs.Days.{earlier_flight}
use Rattle.table_questions.proofs.by_day.days_from.Goals as goal

pub loop-index-preserved : goal.loop-index-preserved
loop-index-preserved c = record {
  value =
      earlier_flight c.args.flights.now c.loop-index.index c.loop-index.day c.earliest-day.result (earliest_of 84005 c.args.flights.now) c.flight-flight.result c.loop-index.invariant.value
      (there c.args.flights.now c.loop-index.index c.flight-flight.result c.flight-flight.ensures.value) (here c.args.flights.now c.loop-index.index c.flight-flight.result c.flight-flight.ensures.value)
      (c.earliest-day.ensures.value ∙ ap (λ (l : List DatedLeg). earliest c.loop-index.day l) c.as_slice.ensures);
  bound = c.earliest-day.ensures.bound;
}
