use Rattle.std.proofs.Common.{ap, sym, ◌∙◌, List, ℕ}
use Rattle.ssim_flights.specs.Schedules.{falling_at}
use Rattle.ssim_flights.proofs.Falling.{round_tells}
use Rattle.ssim_flights.proofs.rows.telling_rows.Goals as goal

pub returns-in-Some-clause-same : goal.returns-in-Some-clause-same
returns-in-Some-clause-same c =
    round_tells c.args.legs.now c.args.rows.now c.in-Some.round c.first-in-Some.ensures.next c.requires c.in-Some.ensures
    ∙ ap (λ (l : List ℕ). falling_at c.args.legs.now l) (sym c.first-in-Some.ensures.first)
