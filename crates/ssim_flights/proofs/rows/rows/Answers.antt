use Rattle.std.proofs.Common.{◌≡◌, ◌≤◌, ◌+◌, ℕ, ◌∷◌, length, map, refl, ap, subst, ◌∙◌, rules, arith}
use Rattle.std.proofs.lemmas.List.{length-map}
use Rattle.ssim_flights.specs.Operating.{Operation}
use Rattle.ssim_flights.specs.Rounds.{AreBefore}
use Rattle.ssim_flights.specs.Schedules.{shortest}
use Rattle.ssim_flights.proofs.Horizons.{rows_are}
use Rattle.ssim_flights.proofs.rows.rows.Goals as goal

pub returns : goal.returns
returns c =
    let plan = c.args.plan.now in
    let first = c.in-Some.first.now in
    let rest = c.in-Some.rest.now in
    let parts : c.args.legs.now ≡ first ∷ rest = search rules in
    let ahead : AreBefore (map (λ o. o.day) first.operations) plan.first c.before-ahead.result =
    subst (λ (d : ℕ). AreBefore (map (λ o. o.day) first.operations) d c.before-ahead.result) c.number.ensures.value c.before-ahead.ensures in
    let within : AreBefore (map (λ o. o.day) first.operations) (plan.last + 1) c.before-within.result =
    subst (λ (d : ℕ). AreBefore (map (λ o. o.day) first.operations) (d + 1) c.before-within.result) c.number-2.ensures.value c.before-within.ensures in
    let count : c.shortest-count.result ≡ shortest (length first.operations) rest = c.shortest-count.ensures.value ∙ ap (λ (n : ℕ). shortest n rest) c.len.ensures in
    let low = c.shortest-count.ensures.low in
    let len = c.len.ensures in
    let mapped = length-map first.operations (λ (o : Operation). o.day) in
    let short : c.shortest-count.result ≤ length (map (λ o. o.day) first.operations) = omega arith in
    rows_are plan first c.before-ahead.result c.before-within.result c.shortest-count.result ahead within short first rest c.args.legs.now c.min-begin.result c.max-end.result
    refl parts count (omega arith) (omega arith)
