use Rattle.std.proofs.Common.{◌∙◌, ap, refl}
use Rattle.seat_display.proofs.Steps.{empty_leaves}
use Rattle.seat_display.proofs.opening.empty.Goals as goal

pub returns-clause-empty : goal.returns-clause-empty
returns-clause-empty c =
    let seen = c.again.ensures in
    empty_leaves _ c.args.grid.now c.args.seen.now.book c.in-Ok.ensures c.in-Ok-counters.ensures.unsold refl (ap (λ s. s.log) seen ∙ c.requires) (ap (λ s. s.book) seen)
