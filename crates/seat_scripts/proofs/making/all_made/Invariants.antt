-- The lines of the manager so far are the first changes.
use Rattle.std.proofs.Common.{take}
use Rattle.seat_scripts.proofs.Made.{MadeSoFar}
use Rattle.seat_scripts.proofs.making.all_made.Given as goal

abbrev pub invariant-loop-entry : goal.invariant-loop-entry
invariant-loop-entry l = MadeSoFar l.changes l.calls (take l.entry-index l.lines)
