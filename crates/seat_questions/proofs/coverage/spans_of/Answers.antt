use Rattle.std.proofs.Common.{ℕ, ap, ◌∙◌}
use Rattle.seat_questions.specs.Coverage.{begin_at, begin_of, end_at, end_of}
use Rattle.seat_questions.specs.PairNumbers.{number_of}
use Rattle.seat_questions.proofs.Coverages.{all_dated, row_more, rows_dated, rows_ranked}
use Rattle.seat_questions.proofs.coverage.spans_of.Goals as goal

pub loop-row-preserved : goal.loop-row-preserved
loop-row-preserved c =
    let number = c.of-number.ensures ∙ ap (number_of c.args.numbers.now.last c.args.numbers.now.count) c.pair_of.ensures in
    record {
      dated = rows_dated c.args.rows.now c.loop-row.row-index c.row-item.result c.loop-row.invariant.dated c.loop-row-test.true c.row-item.is c.begin.ensures.day c.end.ensures.day;
      are_begins = rw c.in_ok-push.ensures.items
          (row_more (begin_of c.args.numbers.now) c.args.rows.now c.loop-row.row-index c.row-item.result c.loop-row.begins.items c.begin.result c.loop-row.invariant.are_begins c.loop-row-test.true c.row-item.is
          (c.begin.ensures.value ∙ ap (λ (n : ℕ). begin_at n c.row-item.result) number));
      are_ends = rw c.in_ok-push-2.ensures.items
          (row_more (end_of c.args.numbers.now) c.args.rows.now c.loop-row.row-index c.row-item.result c.loop-row.ends.items c.end.result c.loop-row.invariant.are_ends c.loop-row-test.true c.row-item.is
          (c.end.ensures.value ∙ ap (λ (n : ℕ). end_at n c.row-item.result) number));
    }

pub returns : goal.returns
returns c = record {
  dated = all_dated c.args.rows.now c.loop-row.row-index c.loop-row.invariant.dated c.loop-row-test.false;
  are_begins = rows_ranked (begin_of c.args.numbers.now) c.args.rows.now c.loop-row.row-index c.loop-row.begins.items c.sort.new.self.items c.loop-row.invariant.are_begins c.loop-row-test.false c.sort.ensures.permutation c.in_ok-sort.ensures.sorted;
  are_ends = rows_ranked (end_of c.args.numbers.now) c.args.rows.now c.loop-row.row-index c.loop-row.ends.items c.sort-2.new.self.items c.loop-row.invariant.are_ends c.loop-row-test.false c.sort-2.ensures.permutation c.in_ok-sort-2.ensures.sorted;
}
