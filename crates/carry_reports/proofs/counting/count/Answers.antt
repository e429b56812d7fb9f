use Rattle.std.proofs.Common.{◌<◌, ap, sym, length, set, arith, ◌∙◌}
use Rattle.std.proofs.lemmas.List.Edits.{map_over_more}
use Rattle.carry_reports.specs.Counting.{counted_by}
use Rattle.carry_reports.proofs.counting.count.Goals as goal

pub loop-k-preserved : goal.loop-k-preserved
loop-k-preserved c =
    let inside : c.loop-k.k < length c.args.sums.now = omega (arith, c.loop-k-test.true) in
    ap (set c.loop-k.sums c.loop-k.k)
    (c.counted_by.ensures ∙ ap (counted_by c.args.code.now c.args.seats) (sym c.index-sums-k.is))
    ∙ map_over_more (counted_by c.args.code.now c.args.seats) c.args.sums.now c.loop-k.sums c.loop-k.k c.index-sums-k.result
    inside c.loop-k.invariant c.index-sums-k.is
