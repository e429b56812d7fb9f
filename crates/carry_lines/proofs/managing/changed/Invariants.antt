-- The lines so far are those of the first changes.
use Rattle.seat_journal.specs.declared.entry.Work.TheVariants.{Limit}
use Rattle.carry_lines.proofs.Setting.{IsSetTo}
use Rattle.carry_lines.proofs.managing.changed.Given as goal

abbrev pub invariant-loop-row : goal.invariant-loop-row
invariant-loop-row l = IsSetTo (λ row. Limit row) l.initial.core.grid l.initial.core.cap l.initial.core.journal l.rows l.row-index l.core
