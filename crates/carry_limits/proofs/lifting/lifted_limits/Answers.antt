use Rattle.std.proofs.Common.{refl}
use Rattle.carry_limits.specs.Legs.{leg_ladders}
use Rattle.carry_limits.specs.Lifting.{lifted_limits, lifted_on}
use Rattle.carry_limits.proofs.Grids.{flights_more}
use Rattle.carry_limits.proofs.Lifted.{flight_more, ladders_more}
use Rattle.carry_limits.proofs.lifting.lifted_limits.Goals as goal

pub loop-flight-preserved : goal.loop-flight-preserved
loop-flight-preserved c = record {
  so_far = flight_more (lifted_on c.args.seasons.now c.args.by.now) c.loop-flight.plan.flights c.add_flight.new.plan.flights
      (leg_ladders (lifted_on c.args.seasons.now c.args.by.now c.loop-flight.flight) c.as_slice-legs.result.now) c.as_slice-legs.result.now
      c.loop-flight.flight c.args.seasons.now.flights.now c.flight-flown.result (lifted_limits c.args.seasons.now c.args.by.now)
      c.loop-flight.invariant.so_far c.flight-flown.ensures.value c.as_slice-legs.ensures refl c.in_ok-add_flight.ensures.value;
  closed = c.in_ok-add_flight.ensures.closed;
  nested = ladders_more c.loop-flight.plan.flights c.add_flight.new.plan.flights
      (leg_ladders (lifted_on c.args.seasons.now c.args.by.now c.loop-flight.flight) c.as_slice-legs.result.now) c.loop-flight.invariant.nested
      c.in_ok-add_flight.ensures.nested c.in_ok-add_flight.ensures.value;
  file = flights_more c.args.seasons.now.file.now c.args.seasons.now.flights.now c.loop-flight.flight c.flight-flown.result c.as_slice-legs.result.now
      c.loop-flight.invariant.file c.flight-flown.ensures.value c.as_slice-legs.ensures c.in_ok-add_flight.ensures.file;
}
