use Rattle.std.proofs.Common.{◌≡◌, ◌+◌, ◌-◌, ◌<◌, ℕ, length, arith, ap, subst, ◌∙◌}
use Rattle.seat_limits.specs.Authorised.{row_pair}
use Rattle.seat_limits.specs.RowStretches.{number_of, slot, start_of, end_of, IsFirst}
use Rattle.seat_limits.proofs.RowIndexing.{row_here}
use Rattle.seat_limits.proofs.RowSlots.{ShowFrom, show_more}
use Rattle.seat_limits.proofs.row_index.rows_found.Goals as goal

pub loop-i-preserved : goal.loop-i-preserved
loop-i-preserved c =
    let one : c.loop-i.i ≡ (c.loop-i.i - 1) + 1 = omega arith in
    let row = c.index-rows-i.result in
    let number : c.number_of-number.result ≡ number_of c.args.last.now (row_pair row) = c.number_of-number.ensures.number in
    let start : c.start_of.result ≡ start_of c.args.last.now row = c.start_of.ensures ∙ ap (λ (n : ℕ). slot n row.from) number in
    let end : c.end_of.result ≡ end_of c.args.last.now row = c.end_of.ensures.value ∙ ap (λ (n : ℕ). slot n row.to + 1) number in
    let from : IsFirst c.args.edges.now (start_of c.args.last.now row) c.first_at-from.result = subst (λ (n : ℕ). IsFirst c.args.edges.now n c.first_at-from.result) start c.first_at-from.ensures in
    let to : IsFirst c.args.edges.now (end_of c.args.last.now row) c.first_at-to.result = subst (λ (n : ℕ). IsFirst c.args.edges.now n c.first_at-to.result) end c.first_at-to.ensures in
    let old : ShowFrom c.args.last.now c.args.rows.now c.args.edges.now c.loop-i.stretches.rows.items ((c.loop-i.i - 1) + 1) = subst (ShowFrom c.args.last.now c.args.rows.now c.args.edges.now c.loop-i.stretches.rows.items) one c.loop-i.invariant.shown in
    let lt : c.loop-i.i - 1 < length c.args.rows.now = omega (arith, one, c.loop-i.invariant.inside) in
    record {
      shown = show_more c.args.last.now c.args.rows.now c.args.edges.now c.loop-i.stretches.rows.items c.paint.new.self.rows.items (c.loop-i.i - 1) c.first_at-from.result c.first_at-to.result c.index-rows-i.result old (row_here c.args.rows.now (c.loop-i.i - 1) c.index-rows-i.result lt c.index-rows-i.is) from to c.paint.ensures.painted;
      skips_are = c.paint.ensures.skips;
      inside = omega (arith, lt);
      knows = c.number_of-number.ensures.knows;
    }
