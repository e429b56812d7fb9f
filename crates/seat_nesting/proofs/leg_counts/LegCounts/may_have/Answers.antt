use Rattle.std.proofs.Common.{◌∙◌}
use Rattle.seat_nesting.specs.Counting.{held_on}
use Rattle.seat_nesting.proofs.LegCounting.{steps_now}
use Rattle.seat_nesting.proofs.LimitChanges.{may_found, may_lacking}
use Rattle.seat_nesting.proofs.leg_counts.LegCounts.may_have.Goals as goal

pub returns-then-is_between : goal.returns-then-is_between
returns-then-is_between c =
    let found = may_found c.args.self.now.steps c.self.inside.steps.now (held_on c.args.self.now) c.args.class c.args.limit c.in-Some.rank c.is_between.result c.rank_of.ensures.kept.ladder.distinct c.in-Some.ensures.found (steps_now c.self.inside.steps.now c.self.inside.held.now c.args.self.now c.self.view_is) c.is_between.ensures in
    rw (c.if-is_between.true, ← c.held_from.ensures) at found

pub returns-else-is_between : goal.returns-else-is_between
returns-else-is_between c =
    let found = may_found c.args.self.now.steps c.self.inside.steps.now (held_on c.args.self.now) c.args.class c.args.limit c.in-Some.rank c.is_between.result c.rank_of.ensures.kept.ladder.distinct c.in-Some.ensures.found (steps_now c.self.inside.steps.now c.self.inside.held.now c.args.self.now c.self.view_is) c.is_between.ensures in
    c.if-is_between.false ∙ (rw c.if-is_between.false at found)

pub returns-in-None : goal.returns-in-None
returns-in-None c = may_lacking c.args.self.now.steps (held_on c.args.self.now) c.args.class c.args.limit c.in-None.ensures.none
