use Rattle.std.proofs.Common.{refl}
use Rattle.std.specs.Vec.{vec_capacity}
use Rattle.seat_nesting.specs.OwnLadders.{pool_of}
use Rattle.seat_nesting.proofs.CountedLegs.{meets, none_taken, rank_counted, take_fits, takes_on, taken_counters}
use Rattle.seat_nesting.proofs.counts.Counts.take_on.Goals as goal

pub returns-in_default : goal.returns-in_default
returns-in_default c = none_taken c.args.self.now c.args.self.now c.args.flight c.args.leg c.args.class c.args.seats refl c.in_default.ensures.none c.requires

pub take-requires-clause-rank : goal.take-requires-clause-rank
take-requires-clause-rank c = rank_counted (pool_of c.self.inside.layout.shared.items c.self.inside.own.items) (vec_capacity c.self.inside.own) c.self.inside.flights c.args.self.now c.args.flight c.args.leg c.args.class c.in-Some.rank (meets (pool_of c.self.inside.layout.shared.items c.self.inside.own.items) (vec_capacity c.self.inside.own) c.self.inside.flights c.args.self.now c.self.invariant c.self.view_is) c.in-Some.ensures.found

pub take-requires-clause-fits : goal.take-requires-clause-fits
take-requires-clause-fits c = take_fits (pool_of c.self.inside.layout.shared.items c.self.inside.own.items) (vec_capacity c.self.inside.own) c.self.inside.flights c.args.self.now c.args.flight c.args.leg c.args.class c.in-Some.rank c.args.seats (meets (pool_of c.self.inside.layout.shared.items c.self.inside.own.items) (vec_capacity c.self.inside.own) c.self.inside.flights c.args.self.now c.self.invariant c.self.view_is) c.in-Some.ensures.found c.requires

pub invariant_of-self : goal.invariant_of-self
invariant_of-self c = taken_counters (pool_of c.self.inside.layout.shared.items c.self.inside.own.items) (vec_capacity c.self.inside.own) c.self.inside.flights c.args.self.now c.args.flight c.args.leg c.args.class c.in-Some.rank c.args.seats c.take.new.self (meets (pool_of c.self.inside.layout.shared.items c.self.inside.own.items) (vec_capacity c.self.inside.own) c.self.inside.flights c.args.self.now c.self.invariant c.self.view_is) c.in-Some.ensures.found c.requires c.take.ensures

pub returns : goal.returns
returns c = takes_on (pool_of c.self.inside.layout.shared.items c.self.inside.own.items) (vec_capacity c.self.inside.own) c.self.inside.flights c.args.self.now c.args.flight c.args.leg c.args.class c.in-Some.rank c.args.seats c.take.new.self (meets (pool_of c.self.inside.layout.shared.items c.self.inside.own.items) (vec_capacity c.self.inside.own) c.self.inside.flights c.args.self.now c.self.invariant c.self.view_is) c.in-Some.ensures.found c.requires c.take.ensures
