use Rattle.std.proofs.Common.{◌≤◌, length}
use Rattle.seat_nesting.proofs.laid_out.find_last.Given as goal

abbrev pub invariant-loop-i : goal.invariant-loop-i
invariant-loop-i l = l.i ≤ length l.shared

abbrev pub decreases-loop-i : goal.decreases-loop-i
decreases-loop-i l = l.i
