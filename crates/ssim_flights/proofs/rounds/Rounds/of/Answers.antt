use Rattle.std.proofs.Common.{ℕ, length, ap, ◌∙◌, arith}
use Rattle.ssim_flights.specs.Operating.{days_among}
use Rattle.ssim_flights.proofs.Rounding.{last_small, round_bounds}
use Rattle.ssim_flights.proofs.rounds.Rounds.of.Goals as goal

pub days_among-first-requires-clause-few : goal.days_among-first-requires-clause-few
days_among-first-requires-clause-few c =
    let bounds = round_bounds c.args.leg.now.second_week in
    let round = c.round_days.ensures in
    omega arith

pub days_among-first-requires-clause-small : goal.days_among-first-requires-clause-small
days_among-first-requires-clause-small c =
    let from = c.requires.right.from.lasts in
    let bounds = round_bounds c.args.leg.now.second_week in
    let round = c.round_days.ensures in
    omega arith

pub count_among-count-requires : goal.count_among-count-requires
count_among-count-requires c = c.as_slice.ensures.value ∙ c.days_among-first.ensures ∙ ap (days_among c.args.leg.now) c.round_days.ensures

pub invariant_of-result : goal.invariant_of-result
invariant_of-result c = record {
  from = c.requires.right.from;
  lasts = last_small c.args.leg.now.to c.args.leg.now.from c.args.end c.requires.right.to c.requires.end;
  first = c.days_among-first.ensures ∙ ap (days_among c.args.leg.now) c.round_days.ensures;
  all = c.count_among-count.ensures ∙ ap (λ (n : ℕ). length (days_among c.args.leg.now n)) c.days_of_period.ensures.value;
}
