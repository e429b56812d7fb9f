use Rattle.std.proofs.Common.{◌++◌, ◌∷◌, [], ap, ◌∙◌}
use Rattle.airline_base.proofs.Sending.{on_err_any}
use Rattle.seat_journal.specs.declared.entry.Work.{Work}
use Rattle.carry_lines.specs.Setting.{SetsFirst, closing, closings_of, manager_line}
use Rattle.carry_lines.proofs.Setting.{one_more, stopped}
use Rattle.carry_lines.proofs.managing.closed_again.Goals as goal

pub loop-mark-preserved : goal.loop-mark-preserved
loop-mark-preserved c =
    one_more closing c.args.core.now.grid c.args.core.now.cap c.args.core.now.journal c.args.marks.now c.loop-mark.mark-index
    c.mark-item.result c.loop-mark.core c.set.new.core c.loop-mark.invariant c.loop-mark-test.true c.mark-item.is
    (c.in_ok-set.ensures.line ∙ ap (λ (w : Work). c.loop-mark.core.journal ++ manager_line c.loop-mark.core.grid c.loop-mark.core.journal w ∷ []) c.work.ensures)
    c.in_ok-set.ensures.grid c.in_ok-set.ensures.cap

pub returns-in_err-set-clause-wanting : goal.returns-in_err-set-clause-wanting
returns-in_err-set-clause-wanting c =
    on_err_any c.from_residual.result (SetsFirst c.args.core.now.grid c.args.core.now.journal c.set.new.core.journal (closings_of c.args.marks.now))
    (stopped closing c.args.core.now.grid c.args.core.now.cap c.args.core.now.journal c.args.marks.now c.loop-mark.mark-index
    c.mark-item.result c.loop-mark.core c.set.new.core c.loop-mark.invariant c.loop-mark-test.true c.in_err-set.ensures.none)
