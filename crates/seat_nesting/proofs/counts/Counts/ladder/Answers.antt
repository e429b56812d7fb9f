use Rattle.std.proofs.Common.{◌≡◌, [], IfSome, IfNone, subst}
use Rattle.seat_nesting.specs.Nesting.{Steps}
use Rattle.seat_nesting.specs.OwnLadders.{pool_of}
use Rattle.seat_nesting.proofs.CountedLegs.{ladder_is, no_ladder, same_pool}
use Rattle.seat_nesting.proofs.FlatCounts.{of_held}
use Rattle.seat_nesting.proofs.counts.Counts.ladder.Goals as goal

pub returns-in_default-clause-none : goal.returns-in_default-clause-none
returns-in_default-clause-none c =
    (no_ladder (pool_of c.self.inside.layout.shared.items c.self.inside.own.items) c.self.inside.flights c.args.self.now c.args.flight c.args.leg c.in_default.ensures.none c.self.view_is)

pub returns-clause-found : goal.returns-clause-found
returns-clause-found c =
    let is = ladder_is (pool_of c.self.inside.layout.shared.items c.self.inside.own.items) c.self.inside.flights c.args.self.now c.args.flight c.args.leg (of_held c.in-Some.limits c.in-Some._seats.now) (pool_of c.ladders.result.now c.deref.result.now) (same_pool c.self.inside.layout.shared.items c.self.inside.own.items c.ladders.result.now c.deref.result.now c.ladders.ensures c.deref.ensures.value) c.in-Some.ensures.found c.self.view_is in
    subst (λ (s : Steps). IfSome c.ladder.result (λ l. l.now ≡ s)) is c.ladder.ensures.found

pub returns-clause-none : goal.returns-clause-none
returns-clause-none c =
    let is = ladder_is (pool_of c.self.inside.layout.shared.items c.self.inside.own.items) c.self.inside.flights c.args.self.now c.args.flight c.args.leg (of_held c.in-Some.limits c.in-Some._seats.now) (pool_of c.ladders.result.now c.deref.result.now) (same_pool c.self.inside.layout.shared.items c.self.inside.own.items c.ladders.result.now c.deref.result.now c.ladders.ensures c.deref.ensures.value) c.in-Some.ensures.found c.self.view_is in
    subst (λ (s : Steps). IfNone c.ladder.result (s ≡ [])) is c.ladder.ensures.none
