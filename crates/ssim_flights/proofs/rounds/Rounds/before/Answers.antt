use Rattle.std.proofs.Common.{◌≡◌, ℕ, ◌-◌, List, length, min, ap, subst, ◌∙◌}
use Rattle.ssim_flights.specs.Operating.{days_among, operating_days}
use Rattle.ssim_flights.specs.Rounds.{AreBefore}
use Rattle.ssim_flights.proofs.Rounding.{before_is}
use Rattle.ssim_flights.proofs.rounds.Rounds.before.Goals as goal

pub returns : goal.returns
returns c =
    let leg = c.self.inside.leg in
    let end = c.self.inside.end in
    let n = c.saturating_sub-days.result in
    let days : n ≡ c.args.number - leg.from = c.saturating_sub-days.ensures ∙ ap (λ (f : ℕ). c.args.number - f) c.number.ensures.value in
    let count : c.min.result ≡ min (length (days_among leg n)) (length (operating_days leg end)) =
    c.min.ensures ∙ ap (λ (k : ℕ). min k c.self.inside.count) c.count_among.ensures ∙ ap (min (length (days_among leg n))) c.self.invariant.all in
    subst (λ (ds : List ℕ). AreBefore ds c.args.number c.min.result) c.self.view_is (before_is leg end c.args.number n c.min.result days count)
