use Rattle.std.proofs.Common.{◌≡◌, ◌+◌, ◌-◌, ◌++◌, ℕ, Bool, false, get_or, arith, ap, ◌∙◌}
use Rattle.std.specs.Prelude.{if◌then◌else◌}
use Rattle.seat_desk.proofs.Texts.{put_more}
use Rattle.seat_questions.specs.Cover.{IsRowPartBy, row_text}
use Rattle.seat_questions.specs.Coverage.{finds_leg}
use Rattle.seat_questions.specs.Winning.{is_marked}
use Rattle.seat_questions.proofs.Covers.{at_most_one, one_more}
use Rattle.seat_questions.proofs.cover.put_rows.Goals as goal

pub loop-i-preserved : goal.loop-i-preserved
loop-i-preserved c =
    let test = finds_leg c.args.coverage.now in
    let marks = c.args.marks.now in
    let i = c.loop-i.i in
    let found = test c.index-rows-i.result in
    let e : i + 1 ≡ 1 + i = omega arith in
    let less : i ≡ (1 + i) - 1 = omega arith in
    let marked = c.is_marked.ensures ∙ ap (λ (k : ℕ). get_or marks k false) less in
    let text = c.in_ok-count.ensures.put
    ∙ ap (λ (b : Bool). c.loop-i.text.items ++ row_text (i + 1) b c.is_marked.result) c.has_leg-has_leg.ensures
    ∙ ap (λ (b : Bool). c.loop-i.text.items ++ row_text (i + 1) found b) marked in
    let count = c.in_ok-count.ensures.count ∙ ap (λ (b : Bool). if b then 1 else 0) c.has_leg-has_leg.ensures in
    record {
      put = put_more (IsRowPartBy test (is_marked marks)) 1 i c.args.rows.now c.index-rows-i.result c.args.text.now.items c.loop-i.text.items c.put_row.new.text.items
          (row_text (i + 1) found (is_marked marks (1 + i) c.index-rows-i.result)) c.loop-i.invariant.put c.loop-i-test.true c.index-rows-i.is
          (ap (λ (k : ℕ). row_text k found (is_marked marks (1 + i) c.index-rows-i.result)) e) text;
      total = one_more test c.args.rows.now i c.index-rows-i.result c.loop-i.count c.in_ok-count.field-0 c.loop-i.invariant.total c.loop-i-test.true c.index-rows-i.is count;
      bound = omega (arith, c.loop-i.invariant.bound, at_most_one found c.in_ok-count.field-0 count);
    }
