use Rattle.std.proofs.Common.{◌≡◌, ◌+◌, ◌<◌, length, true, arith, refl, sym, ◌∙◌}
use Rattle.seat_limits.specs.Authorised.{row_pair, same_pair}
use Rattle.seat_limits.proofs.RowIndexing.{run_more}
use Rattle.seat_limits.proofs.row_index.run_end.Goals as goal

pub loop-end-preserved : goal.loop-end-preserved
loop-end-preserved c =
    let lt : c.loop-end.end < length c.args.rows.now = omega (arith, c.requires.count, c.loop-end-test.true) in
    let of_pair : same_pair (row_pair c.index-rows-end.result) (row_pair c.args.first.now) ≡ true = sym c.is_same_pair.ensures ∙ c.if-not-is_same_pair.false in
    record {
      run = run_more c.args.rows.now (row_pair c.args.first.now) c.args.from c.loop-end.end (c.loop-end.end + 1) c.index-rows-end.result c.loop-end.invariant.run lt c.index-rows-end.is of_pair refl;
      further = omega (arith, c.loop-end.invariant.further);
      inside = omega (arith, c.loop-end-test.true);
    }
