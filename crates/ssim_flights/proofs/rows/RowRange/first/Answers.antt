use Rattle.std.proofs.Common.{◌≡◌, ◌+◌, ◌-◌, length, min, ap, sym, ◌∙◌, List, ℕ, take, arith}
use Rattle.std.proofs.lemmas.List.FromFn.{length-range_with_len}
use Rattle.std.specs.List.{range_with_len}
use Rattle.ssim_flights.proofs.Falling.{range_next, take_range}
use Rattle.ssim_flights.proofs.rows.RowRange.first.Goals as goal

pub overflow_add-result : goal.overflow_add-result
overflow_add-result c =
    let count = length-range_with_len c.self.inside.begin (c.self.inside.end - c.self.inside.begin) in
    let same = ap length c.self.view_is in
    let least = c.min.ensures in
    let len = c.len.ensures in
    let order = c.self.invariant.0 in
    let fits = c.self.invariant.1 in
    omega arith

pub invariant_of-result : goal.invariant_of-result
invariant_of-result c =
    let count = length-range_with_len c.self.inside.begin (c.self.inside.end - c.self.inside.begin) in
    let same = ap length c.self.view_is in
    let least = c.min.ensures in
    let len = c.len.ensures in
    let order = c.self.invariant.0 in
    let fits = c.self.invariant.1 in
    (omega arith, omega arith)

pub returns-clause-first : goal.returns-clause-first
returns-clause-first c =
    let begin = c.self.inside.begin in
    let n = c.self.inside.end - begin in
    let count = length-range_with_len begin n in
    let same = ap length c.self.view_is in
    let least = c.min.ensures in
    let len = c.len.ensures in
    let some : begin + c.min.result - begin ≡ min c.args.count n = omega arith in
    ap (range_with_len begin) some ∙ sym (take_range begin n c.args.count) ∙ ap (λ (l : List ℕ). take c.args.count l) c.self.view_is

pub returns-clause-next : goal.returns-clause-next
returns-clause-next c = range_next c.self.inside.begin (c.self.inside.end - c.self.inside.begin) c.args.self.now c.self.view_is
