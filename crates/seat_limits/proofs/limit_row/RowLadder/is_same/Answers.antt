use Rattle.std.proofs.Common.{◌≡◌, List, subst, ◌∙◌}
use Rattle.std.specs.Bool.{OnTrue}
use Rattle.seat_nesting.specs.declared.ladder.Step.{Step}
use Rattle.seat_limits.proofs.limit_row.RowLadder.is_same.Goals as goal

pub returns : goal.returns
returns c =
    subst (λ (steps : List Step). OnTrue c.are_same.result (steps ≡ c.args.other.now)) (c.as_slice.ensures.value ∙ c.self.view_is)
    (subst (λ (steps : List Step). OnTrue c.are_same.result (c.as_slice.result.now ≡ steps)) (c.as_slice-2.ensures.value ∙ c.other.view_is) c.are_same.ensures)
