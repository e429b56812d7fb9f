use Rattle.std.proofs.Common.{◌≡◌}
use Rattle.seat_nesting.proofs.FlatCounts.{finds, finds_laid, finds_moved}
use Rattle.seat_nesting.proofs.counted_flights.CountedFlights.move_limits.Goals as goal

pub invariant_of-self : goal.invariant_of-self
invariant_of-self c =
    let f = finds c.self.inside.run.items c.self.inside.legs.items c.self.inside.flights.items c.deref.result.now c.args.self.now c.args.flight c.args.leg c.in-Some.i c.index_mut.result.now c.leg_index.result c.self.invariant c.self.view_is c.deref.ensures.value c.leg_index.ensures c.in-Some.is c.index_mut.ensures.value in
    finds_laid c.self.inside.run.items c.self.inside.legs.items c.self.inside.flights.items c.args.self.now c.args.flight c.args.leg c.in-Some.i c.index_mut.result.now c.args.limits f

pub returns : goal.returns
returns c =
    let f = finds c.self.inside.run.items c.self.inside.legs.items c.self.inside.flights.items c.deref.result.now c.args.self.now c.args.flight c.args.leg c.in-Some.i c.index_mut.result.now c.leg_index.result c.self.invariant c.self.view_is c.deref.ensures.value c.leg_index.ensures c.in-Some.is c.index_mut.ensures.value in
    finds_moved c.self.inside.run.items c.self.inside.legs.items c.self.inside.flights.items c.args.self.now c.args.flight c.args.leg c.in-Some.i c.index_mut.result.now c.args.limits f
