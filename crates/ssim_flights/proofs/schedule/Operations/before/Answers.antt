use Rattle.std.proofs.Common.{ℕ, List, map, sym, subst}
use Rattle.ssim_flights.specs.Operating.{Operation}
use Rattle.ssim_flights.specs.Rounds.{AreBefore}
use Rattle.ssim_flights.proofs.Departing.{days_back}
use Rattle.ssim_flights.proofs.schedule.Operations.before.Goals as goal

pub returns : goal.returns
returns c =
    subst (λ (ops : List Operation). AreBefore (map (λ o. o.day) ops) c.args.number c.before-2.result) c.self.view_is
    (subst (λ (ds : List ℕ). AreBefore ds c.args.number c.before-2.result) (sym (days_back c.self.inside.after c.self.inside.days)) c.before-2.ensures)
