-- The changes so far are there.
use Rattle.std.proofs.Common.{◌≡◌, ◌++◌, drop}
use Rattle.seat_availability.specs.Changes.{changed}
use Rattle.seat_availability.proofs.changes.changed.Given as goal

abbrev pub invariant-loop-i : goal.invariant-loop-i
invariant-loop-i l = l.all.items ++ changed (drop l.i l.older) (drop l.i l.newer) ≡ changed l.older l.newer
