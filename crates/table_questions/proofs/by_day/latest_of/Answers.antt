use Rattle.std.proofs.Common.{List, ◌∙◌, ap}
use Rattle.ssim_flights.specs.declared.flight.DatedLeg.{DatedLeg}
use Rattle.seat_questions.proofs.Covers.{there, here}
use Rattle.table_questions.specs.SumRows.{latest, latest_of}
use Rattle.table_questions.proofs.Days.{later_flight}
use Rattle.table_questions.proofs.by_day.latest_of.Goals as goal

pub loop-index-preserved : goal.loop-index-preserved
loop-index-preserved c = record {
  value =
      later_flight c.args.flights.now c.loop-index.index c.loop-index.day c.latest-day.result (latest_of 0 c.args.flights.now) c.flight-flight.result c.loop-index.invariant.value
      (there c.args.flights.now c.loop-index.index c.flight-flight.result c.flight-flight.ensures.value) (here c.args.flights.now c.loop-index.index c.flight-flight.result c.flight-flight.ensures.value)
      (c.latest-day.ensures.value ∙ ap (λ (l : List DatedLeg). latest c.loop-index.day l) c.as_slice.ensures);
  bound = c.latest-day.ensures.bound;
}
