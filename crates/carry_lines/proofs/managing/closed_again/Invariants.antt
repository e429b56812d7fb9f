-- The lines so far are those of the first marks.
use Rattle.carry_lines.specs.Setting.{closing}
use Rattle.carry_lines.proofs.Setting.{IsSetTo}
use Rattle.carry_lines.proofs.managing.closed_again.Given as goal

abbrev pub invariant-loop-mark : goal.invariant-loop-mark
invariant-loop-mark l = IsSetTo closing l.initial.core.grid l.initial.core.cap l.initial.core.journal l.marks l.mark-index l.core
