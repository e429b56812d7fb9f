use Rattle.std.proofs.Common.{◌≡◌, ℕ, ◌+◌, ◌*◌, ◌/◌, ◌%◌, length, ap, ◌∙◌, arith}
use Rattle.ssim_flights.specs.Rounds.{round_days}
use Rattle.ssim_flights.proofs.Rounding.{among_is, few_in_round, product_small}
use Rattle.ssim_flights.proofs.rounds.count_among.Goals as goal

pub overflow_mul-result : goal.overflow_mul-result
overflow_mul-result c =
    let fits = c.ranges.days.fits in
    let product = product_small c.args.leg.now c.args.first.now c.args.days c.round_days-round.result c.requires c.round_days-round.ensures (omega arith) in
    omega arith

pub overflow_add-result : goal.overflow_add-result
overflow_add-result c =
    let fits = c.ranges.days.fits in
    let product = product_small c.args.leg.now c.args.first.now c.args.days c.round_days-round.result c.requires c.round_days-round.ensures (omega arith) in
    let few = few_in_round c.args.leg.now c.args.first.now c.requires in
    let bound = c.days_before.ensures.bound in
    omega arith

pub returns : goal.returns
returns c =
    let leg = c.args.leg.now in
    let first = c.args.first.now in
    let days = c.args.days in
    let round = c.round_days-round.ensures in
    let rest : c.number.result + days % c.round_days-round.result ≡ leg.from + days % round_days leg.second_week =
    ap (λ (r : ℕ). c.number.result + days % r) round ∙ ap (λ (f : ℕ). f + days % round_days leg.second_week) c.number.ensures.value in
    ap (λ (r : ℕ). days / r * length first + c.days_before.result) round ∙ ap (λ (k : ℕ). days / round_days leg.second_week * length first + k) c.days_before.ensures.value
    ∙ among_is leg first days (c.number.result + days % c.round_days-round.result) c.requires rest
