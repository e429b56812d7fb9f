use Rattle.pickup_questions.proofs.Grouping.{class_kept, class_left}
use Rattle.pickup_questions.proofs.by_class.put_class.Goals as goal

pub returns-then-not-has_any : goal.returns-then-not-has_any
returns-then-not-has_any c =
    class_left c.args.moved.now.groups c.args.moved.now.all.now c.place_of.result c.args.class c.sums_at-sums.result c.has_any.result c.args.sheet.now
    c.requires.classes c.place_of.ensures.value c.sums_at-sums.ensures c.has_any.ensures c.if-not-has_any.true c.requires.ready

pub returns : goal.returns
returns c =
    class_kept c.args.moved.now.groups c.args.moved.now.all.now c.place_of.result c.args.class c.sums_at-sums.result c.has_any.result c.args.sheet.now c.put_cells.new.sheet
    c.requires.classes c.place_of.ensures.value c.sums_at-sums.ensures c.has_any.ensures c.if-not-has_any.false c.in_ok-put_cells.ensures
