-- No more is filled than there is room.
use Rattle.std.proofs.Common.{◌-◌, ◌≤◌, length}
use Rattle.seat_files.proofs.kept_file.fill.Given as goal

abbrev pub invariant-loop-filled : goal.invariant-loop-filled
invariant-loop-filled l = l.filled ≤ length l.piece

abbrev pub decreases-loop-filled : goal.decreases-loop-filled
decreases-loop-filled l = length l.piece - l.filled
