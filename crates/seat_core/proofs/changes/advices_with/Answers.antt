use Rattle.std.proofs.Common.{IsTrue, refl, ap, sym, subst, ◌∙◌}
use Rattle.seat_nesting.specs.Nesting.{Steps}
use Rattle.seat_nesting.specs.Counting.{limits_of, table_of}
use Rattle.seat_nesting.specs.Changing.{step_of}
use Rattle.seat_core.proofs.Passes.Changed.{step_there, may_go_back, limits_again, seats_again}
use Rattle.seat_core.proofs.changes.advices_with.Goals as goal

pub returns-in_default-clause-told : goal.returns-in_default-clause-told
returns-in_default-clause-told c =
    absurd (step_there (limits_of c.args.counts.now) (table_of c.args.counts.now) c.args.change.now c.requires.may
    c.in_default.ensures)

pub set-requires-2 : goal.set-requires-2
set-requires-2 c =
    subst IsTrue
    (sym (may_go_back c.args.counts.now c.set.new.self c.advices_of-told.new.counts c.args.change.now c.in-Some.before c.limits_are_kept.ensures
    c.in-Some.ensures c.set.ensures c.advices_of-told.ensures.limits c.advices_of-told.ensures.seats))
    refl

pub returns-clause-limits : goal.returns-clause-limits
returns-clause-limits c =
    limits_again c.args.counts.now c.set.new.self c.advices_of-told.new.counts c.set-2.new.self c.args.change.now c.in-Some.before
    c.in-Some.ensures c.set.ensures c.advices_of-told.ensures.limits c.set-2.ensures

pub returns-clause-seats : goal.returns-clause-seats
returns-clause-seats c =
    seats_again c.args.counts.now c.set.new.self c.advices_of-told.new.counts c.set-2.new.self c.args.change.now c.in-Some.before c.set.ensures c.advices_of-told.ensures.seats c.set-2.ensures
