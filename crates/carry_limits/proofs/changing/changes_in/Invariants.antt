-- The changes of the rows so far are there.
use Rattle.std.proofs.Common.{◌≡◌, map, take}
use Rattle.limit_changes.specs.Laws.{change_in}
use Rattle.carry_limits.proofs.changing.changes_in.Given as goal

abbrev pub invariant-loop-row : goal.invariant-loop-row
invariant-loop-row l = l.all.items ≡ map change_in (take l.row-index l.rows)
