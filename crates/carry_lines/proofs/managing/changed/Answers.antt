use Rattle.airline_base.proofs.Sending.{on_err_any}
use Rattle.seat_journal.specs.declared.entry.Work.TheVariants.{Limit}
use Rattle.carry_lines.specs.Setting.{SetsFirst, changes_of}
use Rattle.carry_lines.proofs.Setting.{one_more, stopped}
use Rattle.carry_lines.proofs.managing.changed.Goals as goal

pub loop-row-preserved : goal.loop-row-preserved
loop-row-preserved c =
    one_more (λ row. Limit row) c.args.core.now.grid c.args.core.now.cap c.args.core.now.journal c.args.rows.now c.loop-row.row-index
    c.row-item.result c.loop-row.core c.set.new.core c.loop-row.invariant c.loop-row-test.true c.row-item.is
    c.in_ok-set.ensures.line c.in_ok-set.ensures.grid c.in_ok-set.ensures.cap

pub returns-in_err-set-clause-wanting : goal.returns-in_err-set-clause-wanting
returns-in_err-set-clause-wanting c =
    on_err_any c.from_residual.result (SetsFirst c.args.core.now.grid c.args.core.now.journal c.set.new.core.journal (changes_of c.args.rows.now))
    (stopped (λ row. Limit row) c.args.core.now.grid c.args.core.now.cap c.args.core.now.journal c.args.rows.now c.loop-row.row-index
    c.row-item.result c.loop-row.core c.set.new.core c.loop-row.invariant c.loop-row-test.true c.in_err-set.ensures.none)
