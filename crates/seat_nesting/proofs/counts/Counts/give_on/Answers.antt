use Rattle.std.proofs.Common.{refl}
use Rattle.std.specs.Vec.{vec_capacity}
use Rattle.seat_nesting.specs.OwnLadders.{pool_of}
use Rattle.seat_nesting.proofs.CountedLegs.{meets, none_given, rank_counted, give_fits, gives_on, given_counters}
use Rattle.seat_nesting.proofs.counts.Counts.give_on.Goals as goal

pub returns-in_default : goal.returns-in_default
returns-in_default c = none_given c.args.self.now c.args.self.now c.args.flight c.args.leg c.args.class c.args.seats refl c.in_default.ensures.none c.requires

pub give-requires-clause-rank : goal.give-requires-clause-rank
give-requires-clause-rank c = rank_counted (pool_of c.self.inside.layout.shared.items c.self.inside.own.items) (vec_capacity c.self.inside.own) c.self.inside.flights c.args.self.now c.args.flight c.args.leg c.args.class c.in-Some.rank (meets (pool_of c.self.inside.layout.shared.items c.self.inside.own.items) (vec_capacity c.self.inside.own) c.self.inside.flights c.args.self.now c.self.invariant c.self.view_is) c.in-Some.ensures.found

pub give-requires-clause-held : goal.give-requires-clause-held
give-requires-clause-held c = give_fits (pool_of c.self.inside.layout.shared.items c.self.inside.own.items) (vec_capacity c.self.inside.own) c.self.inside.flights c.args.self.now c.args.flight c.args.leg c.args.class c.in-Some.rank c.args.seats (meets (pool_of c.self.inside.layout.shared.items c.self.inside.own.items) (vec_capacity c.self.inside.own) c.self.inside.flights c.args.self.now c.self.invariant c.self.view_is) c.in-Some.ensures.found c.requires

pub invariant_of-self : goal.invariant_of-self
invariant_of-self c = given_counters (pool_of c.self.inside.layout.shared.items c.self.inside.own.items) (vec_capacity c.self.inside.own) c.self.inside.flights c.args.self.now c.args.flight c.args.leg c.args.class c.in-Some.rank c.args.seats c.give.new.self (meets (pool_of c.self.inside.layout.shared.items c.self.inside.own.items) (vec_capacity c.self.inside.own) c.self.inside.flights c.args.self.now c.self.invariant c.self.view_is) c.in-Some.ensures.found c.give.ensures

pub returns : goal.returns
returns c = gives_on (pool_of c.self.inside.layout.shared.items c.self.inside.own.items) (vec_capacity c.self.inside.own) c.self.inside.flights c.args.self.now c.args.flight c.args.leg c.args.class c.in-Some.rank c.args.seats c.give.new.self (meets (pool_of c.self.inside.layout.shared.items c.self.inside.own.items) (vec_capacity c.self.inside.own) c.self.inside.flights c.args.self.now c.self.invariant c.self.view_is) c.in-Some.ensures.found c.give.ensures
