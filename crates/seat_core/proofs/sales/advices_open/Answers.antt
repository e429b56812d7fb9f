use Rattle.std.proofs.Common.{length, arith, ap}
use Rattle.seat_nesting.specs.Nesting.{Steps}
use Rattle.seat_nesting.specs.Counting.{limits_of, table_of}
use Rattle.seat_core.proofs.Passes.Sales.{ladder_there, limits_put_back, marks_fit, seats_put_back}
use Rattle.seat_core.proofs.sales.advices_open.Goals as goal

pub returns-in_default-clause-told : goal.returns-in_default-clause-told
returns-in_default-clause-told c =
    let some = ladder_there (limits_of c.args.counts.now) c.args.change.now.flight c.args.change.now.leg c.args.change.now.class c.requires.has in
    absurd (omega (arith, some, ap (λ (s : Steps). length s) c.in_default.ensures.none))

pub set_marks-requires : goal.set_marks-requires
set_marks-requires c =
    marks_fit c.args.counts.now c.set_sale.new.self c.advices_of-told.new.counts c.args.change.now.flight c.args.change.now.leg c.args.change.now.class c.args.change.now.closed c.requires.has c.set_sale.ensures c.advices_of-told.ensures.limits

pub returns-clause-limits : goal.returns-clause-limits
returns-clause-limits c =
    limits_put_back c.args.counts.now c.set_sale.new.self c.advices_of-told.new.counts c.set_marks.new.self c.args.change.now.flight c.args.change.now.leg c.args.change.now.class c.args.change.now.closed c.in-Some.before
    c.in-Some.ensures.found c.set_sale.ensures c.advices_of-told.ensures.limits c.set_marks.ensures

pub returns-clause-seats : goal.returns-clause-seats
returns-clause-seats c =
    seats_put_back c.args.counts.now c.set_sale.new.self c.advices_of-told.new.counts c.set_marks.new.self c.args.change.now.flight c.args.change.now.leg c.args.change.now.class c.args.change.now.closed c.in-Some.before c.set_sale.ensures c.advices_of-told.ensures.seats c.set_marks.ensures
