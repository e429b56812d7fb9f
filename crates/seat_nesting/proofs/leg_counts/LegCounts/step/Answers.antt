use Rattle.std.proofs.Common.{Some, get_or, ap, ◌∙◌}
use Rattle.seat_nesting.specs.Nesting.{Steps}
use Rattle.seat_nesting.proofs.LegCounting.{steps_now}
use Rattle.seat_nesting.proofs.LimitChanges.{step_found, step_lacking}
use Rattle.seat_nesting.proofs.leg_counts.LegCounts.step.Goals as goal

pub returns-in_err-rank : goal.returns-in_err-rank
returns-in_err-rank c = c.from_residual.ensures ∙ step_lacking c.args.self.now.steps c.args.class c.in_err-rank.ensures.none

pub returns : goal.returns
returns c =
    let at = steps_now c.self.inside.steps.now c.self.inside.held.now c.args.self.now c.self.view_is in
    ap (λ (l : Steps). Some (get_or l c.in_ok-rank.rank c.index-self-rank.result)) at
    ∙ step_found c.args.self.now.steps c.args.class c.in_ok-rank.rank c.index-self-rank.result c.rank_of.ensures.kept.ladder.distinct c.in_ok-rank.ensures.found
