use Rattle.std.proofs.Common.{◌<◌, ◌-◌, ℕ, List, get_or, length, ap, arith}
use Rattle.std.proofs.lemmas.List.FromFn.{get_or-range_with_len, length-range_with_len}
use Rattle.ssim_flights.proofs.rows.RowRange.at.Goals as goal

pub overflow_add-result : goal.overflow_add-result
overflow_add-result c =
    let count = length-range_with_len c.self.inside.begin (c.self.inside.end - c.self.inside.begin) in
    let same = ap length c.self.view_is in
    let below = c.requires in
    let fits = c.self.invariant.1 in
    omega arith

pub returns : goal.returns
returns c =
    let begin = c.self.inside.begin in
    let count = length-range_with_len begin (c.self.inside.end - begin) in
    let same = ap length c.self.view_is in
    let below = c.requires in
    let inside : c.args.k < c.self.inside.end - begin = omega arith in
    let here = get_or-range_with_len begin (c.self.inside.end - begin) c.args.k 0 inside in
    let seen = ap (λ (l : List ℕ). get_or l c.args.k 0) c.self.view_is in
    omega arith
