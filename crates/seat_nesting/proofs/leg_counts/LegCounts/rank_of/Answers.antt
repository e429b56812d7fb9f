use Rattle.seat_nesting.proofs.LegCounting.{steps_now, some_rank, none_rank}
use Rattle.seat_nesting.proofs.leg_counts.LegCounts.rank_of.Goals as goal

pub returns-clause-found : goal.returns-clause-found
returns-clause-found c = some_rank c.args.self.now.steps c.args.class c.rank_of.result (rw (steps_now c.self.inside.steps.now c.self.inside.held.now c.args.self.now c.self.view_is) at c.rank_of.ensures)

pub returns-clause-none : goal.returns-clause-none
returns-clause-none c = none_rank c.args.self.now.steps c.args.class c.rank_of.result (rw (steps_now c.self.inside.steps.now c.self.inside.held.now c.args.self.now c.self.view_is) at c.rank_of.ensures)
