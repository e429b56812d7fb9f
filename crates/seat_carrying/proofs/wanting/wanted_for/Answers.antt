use Rattle.std.proofs.Common.{◌≡◌, true, false, sym, subst, ◌∙◌}
use Rattle.seat_nesting.specs.Nesting.{IsLadder, Steps}
use Rattle.seat_carrying.proofs.Wanted.{wanted_is_ladder}
use Rattle.seat_carrying.proofs.wanting.wanted_for.Goals as goal

pub unreachable-requires : goal.unreachable-requires
unreachable-requires c =
    let is : IsLadder c.deref.result.now =
    subst (λ (l : Steps). IsLadder l) (sym (c.deref.ensures.0 ∙ c.steps_wanted-wanted.ensures))
    (wanted_is_ladder c.steps.result.now c.args.begun.now c.args.now.now
    (subst (λ (l : Steps). IsLadder l) (sym c.steps.ensures.value) c.steps.ensures.ladder) c.requires.waits) in
    let wrong : false ≡ true = c.in-Err.ensures.ladder.1 is in
    absurd cc
