use Rattle.std.proofs.Common.{◌≡◌, length, ap, ◌∙◌, arith}
use Rattle.seat_nesting.specs.FlatCounts.{held_in}
use Rattle.seat_nesting.proofs.FlatCounts.{finds, finds_at, finds_counted, finds_ends, of_held}
use Rattle.seat_nesting.proofs.counted_flights.CountedFlights.leg.Goals as goal

pub index-part-requires : goal.index-part-requires
index-part-requires c =
    let at = finds_at c.self.inside.run.items c.self.inside.legs.items c.self.inside.flights.items c.deref.result.now c.args.flight c.args.leg c.in-Some.i c.leg_index.result c.self.invariant c.deref.ensures.value c.leg_index.ensures c.in-Some.is in
    omega (arith, at.inside, c.self.inside.legs.ok)

pub held_in-requires : goal.held_in-requires
held_in-requires c =
    let f = finds c.self.inside.run.items c.self.inside.legs.items c.self.inside.flights.items c.deref.result.now c.args.self.now c.args.flight c.args.leg c.in-Some.i c.index-part.result.now c.leg_index.result c.self.invariant c.self.view_is c.deref.ensures.value c.leg_index.ensures c.in-Some.is c.index-part.ensures in
    let ends = finds_ends c.self.inside.run.items c.self.inside.legs.items c.self.inside.flights.items c.args.self.now c.args.flight c.args.leg c.in-Some.i c.index-part.result.now f in
    omega (arith, ends, ap length c.deref-2.ensures.value)

pub returns-clause-found : goal.returns-clause-found
returns-clause-found c =
    let f = finds c.self.inside.run.items c.self.inside.legs.items c.self.inside.flights.items c.deref.result.now c.args.self.now c.args.flight c.args.leg c.in-Some.i c.index-part.result.now c.leg_index.result c.self.invariant c.self.view_is c.deref.ensures.value c.leg_index.ensures c.in-Some.is c.index-part.ensures in
    ap (of_held c.index-part.result.now.limits) (c.held_in.ensures ∙ ap (λ run. held_in run c.index-part.result.now) c.deref-2.ensures.value)
    ∙ finds_counted c.self.inside.run.items c.self.inside.legs.items c.self.inside.flights.items c.args.self.now c.args.flight c.args.leg c.in-Some.i c.index-part.result.now f
