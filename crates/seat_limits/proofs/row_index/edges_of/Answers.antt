use Rattle.std.proofs.Common.{◌≡◌, ◌+◌, ◌≤◌, ℕ, length, arith, ap, ◌∙◌}
use Rattle.std.proofs.lemmas.List.Filters.{dedup_is}
use Rattle.std.proofs.lemmas.List.Sorted.{IsNonDecreasingBy-from_sort}
use Rattle.seat_limits.specs.Authorised.{row_pair}
use Rattle.seat_limits.specs.RowStretches.{number_of, slot, start_of, end_of}
use Rattle.seat_limits.proofs.RowSlots.{edges_more, edges_once, edges_sorted}
use Rattle.seat_limits.proofs.row_index.edges_of.Goals as goal

pub loop-row-preserved : goal.loop-row-preserved
loop-row-preserved c =
    let row = c.row-item.result in
    let number : c.number_of-number.result ≡ number_of c.args.last.now (row_pair row) = c.number_of-number.ensures.number in
    let start : c.start_of.result ≡ start_of c.args.last.now row = c.start_of.ensures ∙ ap (λ (n : ℕ). slot n row.from) number in
    let end : c.end_of.result ≡ end_of c.args.last.now row = c.end_of.ensures.value ∙ ap (λ (n : ℕ). slot n row.to + 1) number in
    record {
      edges_so_far = rw (c.in-Ok-push.ensures.items, c.in-Ok.ensures.items)
          (edges_more c.args.last.now c.args.rows.now c.loop-row.edges.items c.start_of.result c.end_of.result c.loop-row.row-index row c.loop-row.invariant.edges_so_far c.loop-row-test.true c.row-item.is start end c.end_of.ensures.day);
      knows = c.number_of-number.ensures.knows;
    }

pub returns : goal.returns
returns c =
    let whole : length c.args.rows.now ≤ c.loop-row.row-index = omega (arith, c.loop-row-test.false) in
    let order = c.sort_unstable.new.self.items in
    edges_once c.args.last.now c.args.rows.now order c.dedup.new.self.items
    (edges_sorted c.args.last.now c.args.rows.now c.loop-row.edges.items order c.loop-row.row-index c.loop-row.invariant.edges_so_far whole c.sort_unstable.ensures.permutation
    (IsNonDecreasingBy-from_sort (λ x. x) order c.sort_unstable.ensures.sorted))
    c.sort_unstable.ensures.sorted (dedup_is _ order _ c.dedup.ensures.filtered)
