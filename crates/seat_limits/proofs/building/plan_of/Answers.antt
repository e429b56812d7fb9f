use Rattle.std.proofs.Common.{◌≤◌, List, length, map, sym, ap, subst, ◌∙◌, arith}
use Rattle.std.proofs.lemmas.List.{take_all}
use Rattle.std.proofs.lemmas.List.Elements.{All-replicate}
use Rattle.seat_nesting.specs.Nesting.{Steps}
use Rattle.seat_nesting.specs.Planning.{Planned}
use Rattle.seat_limits.specs.Authorised.{authorised_legs, AreNumbers}
use Rattle.seat_limits.specs.RowStretches.{Knows}
use Rattle.seat_limits.specs.declared.row_index.Near.{Near}
use Rattle.seat_limits.proofs.Grids.{flights_more}
use Rattle.seat_limits.proofs.building.plan_of.Goals as goal

pub loop-i-init : goal.loop-i-init
loop-i-init c = record {
  flights = ap (λ (p : Planned). p.flights) c.in-Ok-new.ensures;
  closed = ap (λ (p : Planned). p.legs) c.in-Ok-new.ensures;
  numbers = subst (λ (l : List Steps). AreNumbers c.in-Ok.numbers.beside.items c.args.rows.now l) (sym (ap (λ (p : Planned). p.ladders) c.in-Ok-new.ensures)) c.in-Ok.ensures;
  nears = All-replicate (λ (near : Near). Knows c.args.index.now.last near.known) 8 c.nothing-nears.result (subst (Knows c.args.index.now.last) (sym c.nothing-nears.ensures) tt);
}

pub add_flight-requires-clause-index : goal.add_flight-requires-clause-index
add_flight-requires-clause-index c = c.requires

pub add_flight-requires-clause-nears : goal.add_flight-requires-clause-nears
add_flight-requires-clause-nears c = c.loop-i.invariant.nears

pub add_flight-requires-clause-numbers : goal.add_flight-requires-clause-numbers
add_flight-requires-clause-numbers c = c.loop-i.invariant.numbers

pub add_flight-requires-clause-closed : goal.add_flight-requires-clause-closed
add_flight-requires-clause-closed c = c.loop-i.invariant.closed

pub loop-i-preserved : goal.loop-i-preserved
loop-i-preserved c = record {
  flights = flights_more c.loop-i.plan.flights c.add_flight.new.plan.flights c.args.flights.now (authorised_legs c.args.rows.now) c.loop-i.i c.flight-flight.result c.loop-i.invariant.flights c.flight-flight.ensures.value c.in-Ok-add_flight.ensures.flights;
  closed = c.in-Ok-add_flight.ensures.closed;
  numbers = c.in-Ok-add_flight.ensures.numbers;
  nears = c.in-Ok-add_flight.ensures.nears;
}

pub returns-clause-flights : goal.returns-clause-flights
returns-clause-flights c =
    let past : length c.args.flights.now ≤ c.loop-i.i = omega (arith, c.loop-i-test.false, c.len-i-end.ensures.value) in
    c.loop-i.invariant.flights ∙ ap (map (authorised_legs c.args.rows.now)) (take_all c.loop-i.i c.args.flights.now past)

pub returns-clause-closed : goal.returns-clause-closed
returns-clause-closed c = c.loop-i.invariant.closed
