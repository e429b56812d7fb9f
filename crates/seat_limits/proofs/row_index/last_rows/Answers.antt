use Rattle.std.proofs.Common.{◌≡◌, ◌+◌, ◌-◌, ◌<◌, length, arith, refl, subst}
use Rattle.seat_limits.specs.Authorised.{row_pair, PutsRow}
use Rattle.seat_limits.specs.declared.row_index.Pair.{Pair}
use Rattle.seat_limits.proofs.RowIndexing.{last_run, run_first}
use Rattle.seat_limits.proofs.row_index.last_rows.Goals as goal

pub run_end-end-requires-clause-here : goal.run_end-end-requires-clause-here
run_end-end-requires-clause-here c =
    let lt : c.loop-i.i < length c.args.rows.now = omega (arith, c.in-Ok.ensures, c.loop-i-test.true) in
    run_first c.args.rows.now c.loop-i.i (c.loop-i.i + 1) c.index-rows-i.result lt c.index-rows-i.is refl

pub loop-i-preserved : goal.loop-i-preserved
loop-i-preserved c =
    let row = c.index-rows-i.result in
    let next : c.run_end-end.result ≡ (c.run_end-end.result - 1) + 1 = omega (arith, c.run_end-end.ensures.further) in
    let P : Pair → Type 0 = λ p. PutsRow c.loop-i.last c.put.new.last p (c.run_end-end.result - 1) in
    let puts : PutsRow c.loop-i.last c.put.new.last (row_pair row) (c.run_end-end.result - 1) = subst P c.pair_of.ensures c.in-Ok-put.ensures in
    record {
      last_so_far =
          last_run c.loop-i.last c.put.new.last c.args.rows.now c.loop-i.i c.run_end-end.result (c.run_end-end.result - 1) (row_pair row) c.loop-i.invariant.last_so_far
          c.run_end-end.ensures.run c.run_end-end.ensures.further next puts;
      inside = c.run_end-end.ensures.inside;
    }
