use Rattle.std.proofs.Common.{ℕ, List, get_or, map, sym, ap, ◌∙◌}
use Rattle.ssim_flights.specs.Operating.{Operation}
use Rattle.ssim_flights.proofs.Departing.{days_back}
use Rattle.ssim_flights.proofs.schedule.Operations.day.Goals as goal

pub returns : goal.returns
returns c =
    c.day.ensures.value ∙ ap (λ (ds : List ℕ). get_or ds c.args.i 0) (sym (days_back c.self.inside.after c.self.inside.days))
    ∙ ap (λ (ops : List Operation). get_or (map (λ o. o.day) ops) c.args.i 0) c.self.view_is
