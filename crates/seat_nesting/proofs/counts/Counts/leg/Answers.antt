use Rattle.std.proofs.Common.{◌∙◌}
use Rattle.seat_nesting.specs.OwnLadders.{pool_of}
use Rattle.seat_nesting.proofs.CountedLegs.{leg_kept, leg_found, same_pool}
use Rattle.seat_nesting.proofs.FlatCounts.{of_held}
use Rattle.seat_nesting.proofs.counts.Counts.leg.Goals as goal

pub of-requires : goal.of-requires
of-requires c = leg_kept (pool_of c.self.inside.layout.shared.items c.self.inside.own.items) c.self.inside.flights c.args.flight c.args.leg (of_held c.in-Some.limits c.in-Some.held.now) (pool_of c.ladders.result.now c.deref.result.now) c.steps.result.now (same_pool c.self.inside.layout.shared.items c.self.inside.own.items c.ladders.result.now c.deref.result.now c.ladders.ensures c.deref.ensures.value) c.in-Some.ensures.found c.steps.ensures.value c.self.invariant.kept

pub returns-clause-found : goal.returns-clause-found
returns-clause-found c = c.of.ensures ∙ leg_found (pool_of c.self.inside.layout.shared.items c.self.inside.own.items) c.self.inside.flights c.args.self.now c.args.flight c.args.leg (of_held c.in-Some.limits c.in-Some.held.now) (pool_of c.ladders.result.now c.deref.result.now) c.steps.result.now (same_pool c.self.inside.layout.shared.items c.self.inside.own.items c.ladders.result.now c.deref.result.now c.ladders.ensures c.deref.ensures.value) c.in-Some.ensures.found c.steps.ensures.value c.self.view_is
