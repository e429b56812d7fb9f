use Rattle.std.proofs.Common.{ℕ, ◌-◌, ap, ◌∙◌}
use Rattle.seat_questions.specs.Coverage.{begin_at, begin_of, below, end_at}
use Rattle.seat_questions.specs.PairNumbers.{number_of}
use Rattle.seat_questions.proofs.coverage.Coverage.legs_of.Goals as goal

pub returns : goal.returns
returns c =
    let numbers = c.args.self.now.numbers in
    let days = c.args.self.now.days.items in
    let number = c.of-number.ensures ∙ ap (number_of numbers.last numbers.count) c.pair_of.ensures in
    c.saturating_sub.ensures
    ∙ ap (λ (n : ℕ). c.legs_before.result - n) (c.legs_before-before.ensures ∙ ap (λ (t : ℕ). below t days) (c.begin.ensures.value ∙ ap (λ (n : ℕ). begin_at n c.args.row.now) number))
    ∙ ap (λ (n : ℕ). n - below (begin_of numbers c.args.row.now) days) (c.legs_before.ensures ∙ ap (λ (t : ℕ). below t days) (c.end.ensures.value ∙ ap (λ (n : ℕ). end_at n c.args.row.now) number))
