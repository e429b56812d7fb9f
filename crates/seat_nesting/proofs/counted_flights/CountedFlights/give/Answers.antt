use Rattle.std.proofs.Common.{◌≡◌, ◌+◌, ◌-◌, ap, ◌∙◌, arith}
use Rattle.seat_nesting.specs.OwnLadders.{counted_at, put, with_held}
use Rattle.seat_nesting.proofs.FlatCounts.{finds, finds_inside, finds_number, finds_written, still_laid}
use Rattle.seat_nesting.proofs.counted_flights.CountedFlights.give.Goals as goal

pub overflow_add-start : goal.overflow_add-start
overflow_add-start c =
    let f = finds c.self.inside.run.items c.self.inside.legs.items c.self.inside.flights.items c.deref.result.now c.args.self.now c.args.flight c.args.leg c.in-Some.i c.index.result.now c.leg_index.result c.self.invariant c.self.view_is c.deref.ensures.value c.leg_index.ensures c.in-Some.is c.index.ensures in
    let inside = finds_inside c.self.inside.run.items c.self.inside.legs.items c.self.inside.flights.items c.args.self.now c.args.flight c.args.leg c.in-Some.i c.index.result.now c.args.rank f c.requires.rank in
    omega (arith, inside, c.self.inside.run.ok, c.self.inside.run.small)

pub index_mut-requires : goal.index_mut-requires
index_mut-requires c =
    let f = finds c.self.inside.run.items c.self.inside.legs.items c.self.inside.flights.items c.deref.result.now c.args.self.now c.args.flight c.args.leg c.in-Some.i c.index.result.now c.leg_index.result c.self.invariant c.self.view_is c.deref.ensures.value c.leg_index.ensures c.in-Some.is c.index.ensures in
    let inside = finds_inside c.self.inside.run.items c.self.inside.legs.items c.self.inside.flights.items c.args.self.now c.args.flight c.args.leg c.in-Some.i c.index.result.now c.args.rank f c.requires.rank in
    omega (arith, inside, c.self.inside.run.ok)

pub overflow_sub-index_mut : goal.overflow_sub-index_mut
overflow_sub-index_mut c =
    let f = finds c.self.inside.run.items c.self.inside.legs.items c.self.inside.flights.items c.deref.result.now c.args.self.now c.args.flight c.args.leg c.in-Some.i c.index.result.now c.leg_index.result c.self.invariant c.self.view_is c.deref.ensures.value c.leg_index.ensures c.in-Some.is c.index.ensures in
    let number = finds_number c.self.inside.run.items c.self.inside.legs.items c.self.inside.flights.items c.args.self.now c.args.flight c.args.leg c.in-Some.i c.index.result.now c.args.rank c.index_mut.result.now f c.requires.rank c.index_mut.ensures.value in
    omega (arith, number, c.requires.held)

pub returns : goal.returns
returns c =
    let f = finds c.self.inside.run.items c.self.inside.legs.items c.self.inside.flights.items c.deref.result.now c.args.self.now c.args.flight c.args.leg c.in-Some.i c.index.result.now c.leg_index.result c.self.invariant c.self.view_is c.deref.ensures.value c.leg_index.ensures c.in-Some.is c.index.ensures in
    let number = finds_number c.self.inside.run.items c.self.inside.legs.items c.self.inside.flights.items c.args.self.now c.args.flight c.args.leg c.in-Some.i c.index.result.now c.args.rank c.index_mut.result.now f c.requires.rank c.index_mut.ensures.value in
    finds_written c.self.inside.run.items c.self.inside.legs.items c.self.inside.flights.items c.args.self.now c.args.flight c.args.leg c.in-Some.i c.index.result.now c.args.rank (c.index_mut.result.now - c.args.seats) f c.requires.rank
    ∙ ap (λ n. put c.args.self.now c.args.flight c.args.leg (with_held (counted_at c.args.self.now c.args.flight c.args.leg) c.args.rank (n - c.args.seats))) number

pub invariant_of-self : goal.invariant_of-self
invariant_of-self c =
    still_laid c.self.inside.run.items c.self.inside.legs.items c.self.inside.flights.items (c.index.result.now.start + c.args.rank) (c.index_mut.result.now - c.args.seats) c.self.invariant
